-- One place more in a table, where its word had none.
use Rattle.std.proofs.Common.{◌≡◌, refl, ℕ, Bool, true, false, ◌&&◌, Option, Some, None, if◌then◌else◌}
use Rattle.std.specs.Option.{option_map}
use Rattle.std.specs.Str.{bytes_eq}
use Rattle.fc_syntax.specs.Tree.{Word}
use Rattle.fc_model.specs.Calling.{first_of}
use Rattle.fc_definition_places.specs.Building.{in_module}
use Rattle.fc_definition_places.specs.Places.{place_of, placed}
use Rattle.fc_definition_places.specs.declared.keys.DefinitionPlace.{DefinitionPlace}

put_in : (o n : Option DefinitionPlace) (a b : Bool) (x : DefinitionPlace) (r : Option ℕ) → n ≡ first_of o (if a && b then Some x else None)
    → first_of (option_map place_of n) (if a then placed x.module r else None) ≡ first_of (option_map place_of o) (if a then placed x.module (if b then Some x.decl else r) else None)
put_in (Some y) n a b x r e = rw e refl
put_in None n true true x r e = rw e refl
put_in None n true false x r e = rw e refl
put_in None n false b x r e = rw e refl

pub put_seen : (o n : Option DefinitionPlace) (k m : Word) (b : Bool) (x : DefinitionPlace) (r : Option ℕ) → n ≡ first_of o (if bytes_eq k m && b then Some x else None)
    → first_of (option_map place_of n) (in_module k m (placed x.module r)) ≡ first_of (option_map place_of o) (in_module k m (placed x.module (if b then Some x.decl else r)))
put_seen o n k m b x r e = put_in o n (bytes_eq k m) b x r e

-- where nothing is left to put in, whether it would be put in or not
pub none_either : {X : Type 0} (o : Option X) (b : Bool) → first_of o (if b then None else None) ≡ o
none_either (Some x) true = refl
none_either (Some x) false = refl
none_either None true = refl
none_either None false = refl

-- the same of a module
pub none_more : {X : Type 0} (o : Option X) (k m : Word) → first_of o (in_module k m None) ≡ o
none_more o k m = none_either o (bytes_eq k m)

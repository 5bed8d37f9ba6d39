-- One value more in a table, where its word had none.
use Rattle.std.proofs.Common.{◌≡◌, refl, Bool, true, false, ◌&&◌, Option, Some, None, if◌then◌else◌}
use Rattle.std.specs.Option.{option_map}
use Rattle.std.specs.Str.{bytes_eq}
use Rattle.fc_syntax.specs.Tree.{Word}
use Rattle.fc_model.specs.Calling.{first_of}
use Rattle.fc_types.specs.FirstDeclared.{in_module}

put_in : {X Y : Type 0} (f : X → Y) (o n : Option X) (a b : Bool) (x : X) (r : Option Y) → n ≡ first_of o (if a && b then Some x else None)
    → first_of (option_map f n) (if a then r else None) ≡ first_of (option_map f o) (if a then (if b then Some (f x) else r) else None)
put_in f (Some y) n a b x r e = rw e refl
put_in f None n true true x r e = rw e refl
put_in f None n true false x r e = rw e refl
put_in f None n false b x r e = rw e refl

pub put_seen : {X Y : Type 0} (f : X → Y) (o n : Option X) (k m : Word) (b : Bool) (x : X) (r : Option Y) → n ≡ first_of o (if bytes_eq k m && b then Some x else None)
    → first_of (option_map f n) (in_module k m r) ≡ first_of (option_map f o) (in_module k m (if b then Some (f x) else r))
put_seen f o n k m b x r e = put_in f o n (bytes_eq k m) b x r e

none_in : {X : Type 0} (o : Option X) (a : Bool) → first_of o (if a then None else None) ≡ o
none_in (Some x) true = refl
none_in (Some x) false = refl
none_in None true = refl
none_in None false = refl

-- where nothing is left to put in
pub none_more : {X : Type 0} (o : Option X) (k m : Word) → first_of o (in_module k m None) ≡ o
none_more o k m = none_in o (bytes_eq k m)

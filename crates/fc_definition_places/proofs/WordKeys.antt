-- What a table has after one word more is put in.
use Rattle.std.proofs.Common.{◌≡◌, refl, sym, ap, ◌∙◌, Bool, true, false, ◌&&◌, Option, Some, None, is_some, if◌then◌else◌}
use Rattle.std.proofs.lemmas.Bool.{and_parts}
use Rattle.std.specs.Str.{bytes_eq}
use Rattle.fc_syntax.specs.Tree.{Word}
use Rattle.fc_model.proofs.Sameness.{bytes_eq_eq}
use Rattle.fc_model.specs.Calling.{first_of}
use Rattle.fc_definition_places.specs.Places.{at}
use Rattle.fc_definition_places.specs.declared.keys.WordKey.{WordKey}
use Rattle.fc_definition_places.specs.contracts.keys.WordKeyPartialEq.TheImpl as of_keys
use Rattle.indexmap.specs.IndexMap.{IndexMap, Updates}

abbrev pub key_eq : WordKey → WordKey → Bool
key_eq = of_keys.eq-value.it

key_of : Word → Word → WordKey
key_of m w = record { «module» = record { ref_ptr = (0, 0); now = m }; word = record { ref_ptr = (0, 0); now = w } }

no_value : {V : Type 0} (o : Option V) → false ≡ is_some o → o ≡ None
no_value None e = refl
no_value (Some x) e = cc

nothing_yet : {V : Type 0} (f : Word → Word → Option V) (n v m w : Word) → (bytes_eq n m && bytes_eq v w) ≡ true → false ≡ is_some (f n v) → f m w ≡ None
nothing_yet f n v m w same none =
    let p = and_parts (bytes_eq n m) (bytes_eq v w) same in
    rw (← bytes_eq_eq n m p.0, ← bytes_eq_eq v w p.1) (no_value (f n v) none)

put_over : {V : Type 0} (b : Bool) (o : Option V) (x : V) → (b ≡ true → o ≡ None) → (if b then Some x else o) ≡ first_of o (if b then Some x else None)
put_over true o x none = ap (λ p. first_of p (Some x)) (sym (none refl))
put_over false (Some y) x none = refl
put_over false None x none = refl

-- a value more, at a word that had none
pub put_new : {V S : Type 0} (old new : IndexMap WordKey V S) (k : WordKey) (n v : Word) (x : V) → k.module.now ≡ n → k.word.now ≡ v → false ≡ is_some (at old k.module.now k.word.now) → Updates key_eq old new k (Some x)
    → (m w : Word) → at new m w ≡ first_of (at old m w) (if bytes_eq n m && bytes_eq v w then Some x else None)
unfolding key_of
put_new old new k n v x same_module same_word none updates m w =
    rw (← same_module, ← same_word)
    (updates.0 (key_of m w) ∙ put_over (bytes_eq k.module.now m && bytes_eq k.word.now w) (at old m w) x (λ same. nothing_yet (at old) k.module.now k.word.now m w same none))

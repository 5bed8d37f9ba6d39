-- The numbers of definitions, while the table of them grows.
use Rattle.std.proofs.Common.{◌≡◌, refl, sym, ap, ◌∙◌, ℕ, List, Bool, true, false, Option, Some, None, is_some, if◌then◌else◌}
use Rattle.std.specs.Str.{bytes_eq}
use Rattle.fc_syntax.specs.Tree.{Word}
use Rattle.fc_model.proofs.Sameness.{bytes_eq_eq}
use Rattle.fc_model.specs.Calling.{first_of}
use Rattle.fc_reaching.specs.Numbering.{at}
use Rattle.indexmap.specs.IndexMap.{IndexMap, Updates}
use denote.Ref.{Bor}

abbrev pub text_eq : Bor (List ℕ) → Bor (List ℕ) → Bool
text_eq x y = bytes_eq x.now y.now

text_of : Word → Bor (List ℕ)
text_of w = record { ref_ptr = (0, 0); now = w }

no_value : {V : Type 0} (o : Option V) → false ≡ is_some o → o ≡ None
no_value None e = refl
no_value (Some x) e = cc

put_over : {V : Type 0} (b : Bool) (o : Option V) (x : V) → (b ≡ true → o ≡ None) → (if b then Some x else o) ≡ first_of o (if b then Some x else None)
put_over true o x none = ap (λ p. first_of p (Some x)) (sym (none refl))
put_over false (Some y) x none = refl
put_over false None x none = refl

-- a value more, at a word that had none
pub put_new : {V S : Type 0} (old new : IndexMap (Bor (List ℕ)) V S) (k : Bor (List ℕ)) (v : Word) (x : V) → k.now ≡ v → false ≡ is_some (at old k.now) → Updates text_eq old new k (Some x)
    → (w : Word) → at new w ≡ first_of (at old w) (if bytes_eq v w then Some x else None)
unfolding text_of
put_new old new k v x same none updates w =
    rw (← same)
    (updates.0 (text_of w) ∙ put_over (bytes_eq k.now w) (at old w) x (λ e. ap (at old) (sym (bytes_eq_eq k.now w e)) ∙ no_value (at old k.now) none))

put_or : {X : Type 0} (o n : Option X) (b : Bool) (x : X) (r : Option X) → n ≡ first_of o (if b then Some x else None) → first_of n r ≡ first_of o (if b then Some x else r)
put_or (Some y) n b x r e = rw e refl
put_or None n true x r e = rw e refl
put_or None n false x r e = rw e refl

-- a number that is put in stands before those that come later
pub put_before : {X : Type 0} (o n : Option X) (v w : Word) (x : X) (r : Option X) → n ≡ first_of o (if bytes_eq v w then Some x else None) → first_of n r ≡ first_of o (if bytes_eq v w then Some x else r)
put_before o n v w x r e = put_or o n (bytes_eq v w) x r e

-- where nothing is left to put in
pub none_later : {X : Type 0} (o : Option X) → first_of o None ≡ o
none_later (Some x) = refl
none_later None = refl

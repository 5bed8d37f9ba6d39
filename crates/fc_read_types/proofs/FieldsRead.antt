-- The binders of a constructor, as they are read one by one.
use Rattle.std.proofs.Common.{◌≡◌, ◌≤◌, ◌<◌, arith, List, [], ◌∷◌, ◌++◌, length, sym, ap, ◌∙◌, append_assoc}
use Rattle.std.proofs.lemmas.List.{map-append}
use Rattle.fc_syntax.specs.Tree.{Word, Binder}
use Rattle.fc_syntax.specs.View.{binder_of, binders_of}
use Rattle.fc_syntax.specs.declared.expr.Binder as B
use Rattle.fc_model.specs.Words.{Tok}
use Rattle.fc_model.specs.Grammar.{Part, Given, Steps, ◌▸◌, FieldBinders}
use Rattle.fc_model.specs.Reading.{read_steps}

-- what the loop keeps: with what was read, whatever is read of the rest goes on
pub record FieldsSoFar (ts : List Tok) (xs : List Binder) (us : List Tok) : Type 0 where
  pub so : (q : Part) (f : List Binder → Steps (Given q)) → read_steps ts (FieldBinders ▸ f) ≡ read_steps us (FieldBinders ▸ λ more. f (xs ++ more))
  pub within : length us ≤ length ts

pub fields_start : (ts : List Tok) (xs : List Binder) → xs ≡ [] → FieldsSoFar ts xs ts
fields_start ts xs e = record { so = λ q f. ap (λ g. read_steps ts (FieldBinders ▸ g)) (λ i more. f (ap (λ ys. ys ++ more) (sym e) i)); within = omega arith }

-- one more in front of what follows
one_more : (xs : List Binder) (old new : List (B.Binder Word)) (b : B.Binder Word) (more : List Binder) → new ≡ old ++ b ∷ [] → xs ≡ binders_of old → xs ++ (binder_of b ∷ more) ≡ binders_of new ++ more
one_more xs old new b more e h =
    ap (λ ys. ys ++ (binder_of b ∷ more)) h ∙ sym (append_assoc (binders_of old) (binder_of b ∷ []) more)
    ∙ ap (λ ys. ys ++ more) (sym (ap binders_of e ∙ map-append binder_of old (b ∷ [])))

pub fields_more : (ts us vs : List Tok) (old new : List (B.Binder Word)) (b : B.Binder Word) → FieldsSoFar ts (binders_of old) us
    → ((q : Part) (f : List Binder → Steps (Given q)) → read_steps us (FieldBinders ▸ f) ≡ read_steps vs (FieldBinders ▸ λ bs. f (binder_of b ∷ bs))) → length vs < length us
    → new ≡ old ++ b ∷ [] → FieldsSoFar ts (binders_of new) vs
fields_more ts us vs old new b s d h e = record {
  so = λ q f. s.so q f ∙ d q (λ more. f (binders_of old ++ more)) ∙ ap (λ g. read_steps vs (FieldBinders ▸ g)) (λ i more. f (one_more (binders_of old) old new b more e (λ j. binders_of old) i));
  within = omega (arith, s.within, h);
}

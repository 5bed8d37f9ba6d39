-- Parts in place of the binders of an alternative.
use Rattle.std.proofs.Common.{◌≡◌, ℕ, zero, suc, List, [], ◌∷◌, length, refl, sym, ap, ap₂, ◌∙◌}
use Rattle.fc_model.specs.Erasure.{Scope, arg_sorts, below_all, below_unnamed, below_value, binder_sorts, erased, erased_args, sort_of, sort_of_type}
use Rattle.fc_model.specs.Nameless.{NTy, NBinder, NBValue, NBType, NBCo, NExpr, NATerm, NAType, NACo, NArgs, NoNArgs, MoreNArgs}
use Rattle.fc_model.specs.Replacing.{Substitution, expressions, past_a_value, with_argument, with_arguments}
use Rattle.fc_model.specs.Substituting.{substituted_type}
use Rattle.fc_model.specs.Terms.{Sort, Lifted, Unlifted, Term, Var, Terms, count, push, pushes, upr}
use Rattle.fc_rows.specs.Shrinking.{moved_args}
use Rattle.fc_meaning.proofs.SortsOfTypes.{sort_of_substituted}
use Rattle.fc_meaning.proofs.WrittenExpressions.{AreArgsWritten, IsWritten}
use Rattle.fc_erased.specs.Erasing.{Erases}
use Rattle.fc_erased.proofs.ErasedReplacements.{past_value_erases, sort_renamed}
use Rattle.fc_row_places.specs.KnowingRows.{PartsFit}
use Rattle.fc_row_places.specs.NamelessFacts.{BehindTypes, behind_none, behind_one}
use Rattle.fc_row_places.proofs.MovedFacts.{PartsBecome, no_parts_erase, term_part, type_part, coercion_part}

-- PARTS IN PLACE OF THE BINDERS OF AN ALTERNATIVE

-- the replacement does on expressions what the substitution does when types are gone
abbrev pub Commutes : Scope → Scope → Substitution → (ℕ → Term) → Type 0
Commutes c d r p = Erases expressions IsWritten c d r p

pub with_term : (c d : Scope) (r : Substitution) (p : ℕ → Term) (e : NExpr) (o : Sort) (t : Term) → IsWritten e → sort_of c e ≡ o → erased c e ≡ t → Commutes c d r p
    → Commutes c (below_value o d) (with_argument (NATerm e) r) (push t p)
unfolding push upr
with_term c d r p e o t we s q w = record {
  good = elim [ zero ↦ we | suc i ↦ w.good i ];
  values = elim [ zero ↦ q | suc i ↦ w.values i ];
  sorts = elim [ zero ↦ s | suc i ↦ w.sorts i ];
  joins = λ i. w.joins i;
  types = w.types;
}

pub with_parts : (c : Scope) (parts : NArgs) (bs : List NBinder) (ss : List Sort) (ts : Terms) → AreArgsWritten parts → PartsFit c parts bs → PartsBecome c parts ss ts
    → (d : Scope) (r : Substitution) (p : ℕ → Term) → Commutes c d r p
    → (binder_sorts bs ≡ ss) × Commutes c (below_all bs d) (with_arguments parts r) (pushes ts p)
unfolding pushes push
with_parts c NoNArgs [] _ _ wr f no_parts_erase d r p w = (refl, w)
with_parts c (MoreNArgs (NATerm e) rest) (NBValue t ∷ bs) _ _ wr f (term_part {o = o} {t = x} {ss = ss} {ts = ts} s q more) d r p w =
    let next = with_term c d r p e (sort_of_type t) x wr.0 f.0 q w in
    let tail = with_parts c rest bs ss ts wr.1 f.1 more (below_value (sort_of_type t) d) (with_argument (NATerm e) r) (push x p) next in
    (ap₂ ◌∷◌ (sym f.0 ∙ s) tail.0, tail.1)
with_parts c (MoreNArgs (NAType u) rest) (NBType k ∷ bs) ss ts wr f (type_part more) d r p w =
    with_parts c rest bs ss ts wr.1 f.1 more d (with_argument (NAType u) r) p
    (record { good = w.good; values = w.values; sorts = w.sorts; joins = w.joins; types = elim [ zero ↦ f.0 | suc i ↦ w.types i ] })
with_parts c (MoreNArgs (NACo g) rest) (NBCo q t u ∷ bs) _ _ wr f (coercion_part {t = x} {ss = ss} {ts = ts} more) d r p w =
    let tail = with_parts c rest bs ss ts wr.1 f more (below_unnamed d) (with_argument (NACo g) r) (push x p)
    (record { good = w.good; values = w.values; sorts = w.sorts; joins = w.joins; types = w.types }) in
    (ap (λ l. Unlifted ∷ l) tail.0, tail.1)
with_parts c NoNArgs (b ∷ bs) ss ts wr f m d r p w = absurd f
with_parts c (MoreNArgs (NATerm e) rest) [] ss ts wr f m d r p w = absurd f
with_parts c (MoreNArgs (NAType u) rest) [] ss ts wr f m d r p w = absurd f
with_parts c (MoreNArgs (NACo g) rest) [] ss ts wr f m d r p w = absurd f
with_parts c (MoreNArgs (NATerm e) rest) (NBType k ∷ bs) ss ts wr f m d r p w = absurd f
with_parts c (MoreNArgs (NATerm e) rest) (NBCo q t u ∷ bs) ss ts wr f m d r p w = absurd f
with_parts c (MoreNArgs (NAType u) rest) (NBValue t ∷ bs) ss ts wr f m d r p w = absurd f
with_parts c (MoreNArgs (NAType u) rest) (NBCo q t v ∷ bs) ss ts wr f m d r p w = absurd f
with_parts c (MoreNArgs (NACo g) rest) (NBValue t ∷ bs) ss ts wr f m d r p w = absurd f
with_parts c (MoreNArgs (NACo g) rest) (NBType k ∷ bs) ss ts wr f m d r p w = absurd f

lifted_past : (u : NTy) → sort_of_type u ≡ Lifted → sort_of_type (substituted_type past_a_value.types u) ≡ Lifted
lifted_past u l = sort_of_substituted past_a_value.types (λ i. refl) u ∙ l

-- parts go past a binder that they do not name
pub fits_past : (o : Sort) (c : Scope) (parts : NArgs) (bs : List NBinder) → PartsFit c parts bs → PartsFit (below_value o c) (moved_args past_a_value parts) bs
fits_past o c NoNArgs [] f = tt
fits_past o c (MoreNArgs (NATerm e) rest) (NBValue t ∷ bs) f = (sort_renamed (below_value o c) c past_a_value (λ n. Var (suc n)) (past_value_erases o c) e ∙ f.0, fits_past o c rest bs f.1)
fits_past o c (MoreNArgs (NAType u) rest) (NBType k ∷ bs) f = (lifted_past u f.0, fits_past o c rest bs f.1)
fits_past o c (MoreNArgs (NACo g) rest) (NBCo q t u ∷ bs) f = fits_past o c rest bs f
fits_past o c NoNArgs (b ∷ bs) f = absurd f
fits_past o c (MoreNArgs (NATerm e) rest) [] f = absurd f
fits_past o c (MoreNArgs (NAType u) rest) [] f = absurd f
fits_past o c (MoreNArgs (NACo g) rest) [] f = absurd f
fits_past o c (MoreNArgs (NATerm e) rest) (NBType k ∷ bs) f = absurd f
fits_past o c (MoreNArgs (NATerm e) rest) (NBCo q t u ∷ bs) f = absurd f
fits_past o c (MoreNArgs (NAType u) rest) (NBValue t ∷ bs) f = absurd f
fits_past o c (MoreNArgs (NAType u) rest) (NBCo q t v ∷ bs) f = absurd f
fits_past o c (MoreNArgs (NACo g) rest) (NBValue t ∷ bs) f = absurd f
fits_past o c (MoreNArgs (NACo g) rest) (NBType k ∷ bs) f = absurd f

pub behind_terms : (c : Scope) {args parts : NArgs} → BehindTypes args parts → erased_args c args ≡ erased_args c parts
behind_terms c behind_none = refl
behind_terms c (behind_one w) = behind_terms c w

pub count_args : (c : Scope) (args : NArgs) → length (arg_sorts c args) ≡ count (erased_args c args)
unfolding count
count_args c NoNArgs = refl
count_args c (MoreNArgs (NATerm e) rest) = ap suc (count_args c rest)
count_args c (MoreNArgs (NAType t) rest) = count_args c rest
count_args c (MoreNArgs (NACo g) rest) = ap suc (count_args c rest)

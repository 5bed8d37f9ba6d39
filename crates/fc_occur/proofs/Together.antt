-- Pieces that are counted together.
use Rattle.std.proofs.Common.{◌≡◌, ◌<◌, ◌+◌, ℕ, refl, sym, ap, ◌∙◌, drop, get_or, List, ◌∷◌, length, Bool, false, if◌then◌else◌}
use Rattle.std.proofs.lemmas.List.{drop_more}
use Rattle.fc_model.specs.Nameless.{NTy, NExpr, NLet, NCase, NJoin, NBinds, NJoins, NAlts}
use Rattle.fc_model.specs.Replacing.{bind_count, join_count}
use Rattle.fc_rows.specs.Occurrences.{Sought, and_further, behind_joins, behind_values, in_alts, in_binds, in_joins, inside, is_dead, occurrences}
use Rattle.fc_rows.specs.declared.occurrence.Occurrence.{Occurrence}
use Rattle.fc_rows.specs.declared.occurrence.Occurrence.TheVariants.{Dead, Once, OnceAsField, OnceInside, Many}

-- what occurs in one of two pieces occurs in both together
not_dead : (v d : Occurrence) → is_dead v ≡ false → is_dead (if is_dead d then v else Many) ≡ false
not_dead v Dead alive = alive
not_dead v Once alive = refl
not_dead v OnceAsField alive = refl
not_dead v OnceInside alive = refl
not_dead v Many alive = refl

one_and_others : (a b c : Occurrence) → ((d : Occurrence) → and_further a d ≡ (if is_dead d then a else Many)) → and_further (if is_dead b then a else Many) c ≡ (if is_dead (and_further b c) then a else Many)
one_and_others a Dead c law = law c
one_and_others a Once c law = ap (λ none. if none then a else Many) (sym (not_dead Once c refl))
one_and_others a OnceAsField c law = ap (λ none. if none then a else Many) (sym (not_dead OnceAsField c refl))
one_and_others a OnceInside c law = ap (λ none. if none then a else Many) (sym (not_dead OnceInside c refl))
one_and_others a Many c law = refl

-- of three pieces, the first two together and then the third, or the last two and then the first
pub together_again : (a b c : Occurrence) → and_further (and_further a b) c ≡ and_further a (and_further b c)
together_again Dead b c = refl
together_again Once b c = one_and_others Once b c (λ d. refl)
together_again OnceAsField b c = one_and_others OnceAsField b c (λ d. refl)
together_again OnceInside b c = one_and_others OnceInside b c (λ d. refl)
together_again Many b c = refl

pub together_none : (a : Occurrence) → and_further a Dead ≡ a
together_none Dead = refl
together_none Once = refl
together_none OnceAsField = refl
together_none OnceInside = refl
together_none Many = refl

pub ruleset together_rules = (together_again, together_none)

-- one item more of a list is counted
pub counted_step : {X : Type 0} (f : List X → Occurrence) (g : X → Occurrence) → ((x : X) (xs : List X) → f (x ∷ xs) ≡ and_further (g x) (f xs)) → (items : List X) (i : ℕ) (x : X)
    (all found more : Occurrence) → and_further all (f (drop i items)) ≡ f items → i < length items → x ≡ get_or items i x → found ≡ g x → more ≡ and_further all found
    → and_further more (f (drop (i + 1) items)) ≡ f items
counted_step f g law items i x all found more so_far within is counts together =
    let rest = f (drop (i + 1) items) in
    ap (λ n. and_further n rest) (together ∙ ap (and_further all) counts) ∙ together_again all (g x) rest ∙ ap (and_further all) (sym (law x (drop (i + 1) items)))
    ∙ ap (λ xs. and_further all (f xs)) (ap (λ y. y ∷ drop (i + 1) items) is ∙ sym (drop_more items i x within)) ∙ so_far

-- a let, a case and what has join points, by their parts
pub let_counted : (r : Bool) (n : ℕ) (bs : NBinds) (e : NExpr) (u v : Sought) (a b : Occurrence) → n ≡ bind_count bs → v ≡ behind_values n u → a ≡ in_binds (if r then v else u) bs → b ≡ occurrences v e
    → and_further a b ≡ occurrences u (NLet r bs e)
let_counted r n bs e u v a b size seen first second =
    let inner : v ≡ behind_values (bind_count bs) u = seen ∙ ap (λ m. behind_values m u) size in
    ap (λ x. and_further x b) (first ∙ ap (λ w. in_binds (if r then w else u) bs) inner) ∙ ap (and_further (in_binds (if r then behind_values (bind_count bs) u else u) bs)) (second ∙ ap (λ w. occurrences w e) inner)

pub let_many : (r : Bool) (n : ℕ) (bs : NBinds) (e : NExpr) (u v : Sought) (a : Occurrence) → n ≡ bind_count bs → v ≡ behind_values n u → a ≡ in_binds (if r then v else u) bs → a ≡ Many
    → Many ≡ occurrences u (NLet r bs e)
let_many r n bs e u v a size seen first many = let_counted r n bs e u v Many (occurrences v e) size seen (sym many ∙ first) refl

pub case_counted : (e : NExpr) (t w : NTy) (alts : NAlts) (u v : Sought) (a b : Occurrence) → v ≡ behind_values 1 u → a ≡ occurrences u e → b ≡ in_alts v alts → and_further a b ≡ occurrences u (NCase e t w alts)
case_counted e t w alts u v a b seen first second =
    ap (λ x. and_further x b) first ∙ ap (and_further (occurrences u e)) (second ∙ ap (λ x. in_alts x alts) seen)

pub join_counted : (r : Bool) (n : ℕ) (t : NTy) (js : NJoins) (e : NExpr) (u v : Sought) (a b : Occurrence) → n ≡ join_count js → v ≡ behind_joins n u → a ≡ (if r then inside (in_joins v js) else in_joins u js)
    → b ≡ occurrences v e → and_further a b ≡ occurrences u (NJoin r t js e)
join_counted r n t js e u v a b size seen first second =
    let inner : v ≡ behind_joins (join_count js) u = seen ∙ ap (λ m. behind_joins m u) size in
    ap (λ x. and_further x b) (first ∙ ap (λ w. if r then inside (in_joins w js) else in_joins u js) inner)
    ∙ ap (and_further (if r then inside (in_joins (behind_joins (join_count js) u) js) else in_joins u js)) (second ∙ ap (λ w. occurrences w e) inner)

pub join_many : (r : Bool) (n : ℕ) (t : NTy) (js : NJoins) (e : NExpr) (u v : Sought) (a : Occurrence) → n ≡ join_count js → v ≡ behind_joins n u → a ≡ (if r then inside (in_joins v js) else in_joins u js)
    → a ≡ Many → Many ≡ occurrences u (NJoin r t js e)
join_many r n t js e u v a size seen first many = join_counted r n t js e u v Many (occurrences v e) size seen (sym many ∙ first) refl

-- What is sought, from behind binders.
use Rattle.std.proofs.Common.{◌≡◌, ◌≤◌, ◌<◌, ◌+◌, ℕ, zero, suc, refl, ap, ◌∙◌, arith, nat_lt, if◌then◌else◌, List, [], ◌∷◌}
use Rattle.std.proofs.Math.Path.{fun_ext}
use Rattle.std.proofs.lemmas.Bool.Decides.{nat_tests}
use Rattle.fc_model.specs.Nameless.{NBinder, NBValue, NBType, NBCo}
use Rattle.fc_model.specs.Replacing.{times}
use Rattle.fc_rows.specs.Occurrences as spec
use Rattle.fc_rows.specs.Occurrences.{behind_all, behind_joins, behind_values, dead_before, first_ones, innermost_joins, innermost_values, no_ones}
use Rattle.fc_rows.specs.declared.occurrence.Occurrence.TheVariants.{Dead, Once}
use Rattle.fc_occur.specs.Spans.{bound_values, sought_of, within}
use Rattle.fc_occur.specs.declared.sought.Sought.{Sought}
use Rattle.fc_occur.specs.declared.sought.Span.{Span}

if_low : {X : Type 0} (i m : ℕ) (a b : X) → i < m → (if nat_lt i m then a else b) ≡ a
if_low i m a b low = grind (arith, nat_tests)

if_high : {X : Type 0} (i m : ℕ) (a b : X) → m ≤ i → (if nat_lt i m then a else b) ≡ b
if_high i m a b high = grind (arith, nat_tests)

pub within_before : (s : Span) (i : ℕ) → i < s.from → within s i ≡ Dead
unfolding within
within_before s i low = if_low i s.from Dead (if nat_lt i (s.from + s.count) then Once else Dead) low

pub within_span : (s : Span) (i : ℕ) → s.from ≤ i → i < s.from + s.count → within s i ≡ Once
unfolding within
within_span s i high low = if_high i s.from Dead (if nat_lt i (s.from + s.count) then Once else Dead) high ∙ if_low i (s.from + s.count) Once Dead low

pub within_behind : (s : Span) (i : ℕ) → s.from ≤ i → s.from + s.count ≤ i → within s i ≡ Dead
unfolding within
within_behind s i high higher = if_high i s.from Dead (if nat_lt i (s.from + s.count) then Once else Dead) high ∙ if_high i (s.from + s.count) Once Dead higher

pub ruleset span_rules = (within_before, within_span, within_behind)

-- one binder more
one_more : (s : Span) (i : ℕ) → within (record s { from = s.from + 1 }) i ≡ dead_before (within s) i
unfolding within
one_more s zero = if_low 0 (s.from + 1) Dead (if nat_lt 0 ((s.from + 1) + s.count) then Once else Dead) (omega arith)
one_more s (suc i) =
    ap (λ b. if b then Dead else (if nat_lt (suc i) ((s.from + 1) + s.count) then Once else Dead)) (tests i s.from (s.from + 1) (omega arith))
    ∙ ap (λ b. if nat_lt i s.from then Dead else (if b then Once else Dead)) (tests i (s.from + s.count) ((s.from + 1) + s.count) (omega arith))
  where
    tests : (i m n : ℕ) → n ≡ suc m → nat_lt (suc i) n ≡ nat_lt i m
    tests i m n is = ap (nat_lt (suc i)) is ∙ grind (arith, nat_tests)

pub many_more : (m : ℕ) (s : Span) → within (record s { from = s.from + m }) ≡ times m dead_before (within s)
many_more zero s = ap (λ n. within (record s { from = n })) (let e : s.from + 0 ≡ s.from = omega arith in e)
many_more (suc m) s =
    ap (λ n. within (record s { from = n })) (let e : s.from + suc m ≡ (s.from + 1) + m = omega arith in e)
    ∙ many_more m (record s { from = s.from + 1 }) ∙ ap (times m dead_before) (fun_ext (one_more s))

pub values_more : (m : ℕ) (s : Sought) (v : Span) → v ≡ record s.values { from = s.values.from + m } → sought_of (record s { values = v }) ≡ behind_values m (sought_of s)
values_more m s v is =
    ap (λ x. sought_of (record s { values = x })) is
    ∙ ap (λ f. let r : spec.Sought = record { values = f; joins = within s.joins } in r) (many_more m s.values)

pub joins_more : (m : ℕ) (s : Sought) (v : Span) → v ≡ record s.joins { from = s.joins.from + m } → sought_of (record s { joins = v }) ≡ behind_joins m (sought_of s)
joins_more m s v is =
    ap (λ x. sought_of (record s { joins = x })) is
    ∙ ap (λ f. let r : spec.Sought = record { values = within s.values; joins = f } in r) (many_more m s.joins)

-- binders that stand together
pub behind_bound : (bs : List NBinder) (u : spec.Sought) → behind_values (bound_values bs) u ≡ behind_all bs u
behind_bound [] u = refl
behind_bound (NBValue t ∷ bs) u = behind_bound bs (behind_values 1 u)
behind_bound (NBType k ∷ bs) u = behind_bound bs u
behind_bound (NBCo r t w ∷ bs) u = behind_bound bs u

-- the innermost ones
within_first : (n i : ℕ) → within (record { from = 0; count = n }) i ≡ first_ones n i
unfolding within
within_first n i = if_high i 0 Dead (if nat_lt i (0 + n) then Once else Dead) (omega arith) ∙ ap (λ m. if nat_lt i m then Once else Dead) (let e : 0 + n ≡ n = omega arith in e)

within_none : (i : ℕ) → within (record { from = 0; count = 0 }) i ≡ no_ones i
within_none i = within_behind (record { from = 0; count = 0 }) i (omega arith) (omega arith)

pub innermost_values_sought : (n : ℕ) → sought_of (record { values = record { from = 0; count = n }; joins = record { from = 0; count = 0 } }) ≡ innermost_values n
innermost_values_sought n = λ j. record { values = λ i. within_first n i j; joins = λ i. within_none i j }

pub innermost_joins_sought : (n : ℕ) → sought_of (record { values = record { from = 0; count = 0 }; joins = record { from = 0; count = n } }) ≡ innermost_joins n
innermost_joins_sought n = λ j. record { values = λ i. within_none i j; joins = λ i. within_first n i j }

-- What is renamed, and what trivial expressions are put into, is made of no more terms; and what one expression is put into once has at most its terms and one more.
use Rattle.std.proofs.Common.{◌≡◌, ◌≤◌, ◌+◌, ℕ, zero, suc, true, false, refl, arith, inl, inr}
use Rattle.std.proofs.lemmas.Bool.{and_parts}
use Rattle.fc_model.specs.Nameless.{NATerm, NAType, NACo, NArgs, NoNArgs, MoreNArgs, NAlts, NExpr}
use Rattle.fc_model.specs.Replacing.{Renaming, Substitution, coercion_variables, expressions, past_a_coercion, past_a_join, past_a_type, past_a_value, put_in_alts, renamed, replaced}
use Rattle.fc_model.specs.Replacing.{unchanged, value_alone, variables, whole_coercions, with_argument, with_arguments}
use Rattle.fc_rows.specs.Occurrences.{Sought, in_alts, in_fields, innermost_values, is_dead, no_ones, occurrences}
use Rattle.fc_rows.specs.Shrinking.{are_trivial, is_trivial, moved_args}
use Rattle.fc_rows.specs.declared.occurrence.Occurrence.{Occurrence}
use Rattle.fc_rows.specs.declared.occurrence.Occurrence.TheVariants.{Dead}
use Rattle.fc_model.proofs.Sameness.{false_true}
use Rattle.fc_row_nodes.specs.Nodes.{alts_nodes, fields_nodes, nodes}
use Rattle.fc_row_nodes.proofs.Gains.{gain, gain_at_most, is_many, no_gain}
use Rattle.fc_row_nodes.proofs.PutIn.{StandsLight, alts_within, fields_within, put_within}
use Rattle.fc_row_nodes.proofs.Within.{IsWithin, field, field_at_most, trivial_field, within_more}

-- nothing is sought
abbrev nothing : Sought
nothing = record { values = no_ones; joins = no_ones }

-- VARIABLES IN PLACE OF VARIABLES

variables_light : StandsLight variables
variables_light = record { innermost = omega arith; past_type = λ v. omega arith; past_coercion = λ v. omega arith; past_value = λ v. omega arith; past_join = λ v. omega arith }

pub renamed_within : (r : Renaming) (e : NExpr) → IsWithin 0 e (renamed r e)
renamed_within r e =
    let d = occurrences nothing e in
    within_more (gain 0 d) 0 e (renamed r e) (omega (arith, no_gain d)) (put_within variables coercion_variables variables_light 0 nothing r (λ i. omega arith) e (inl refl))

pub renamed_nodes : (r : Renaming) (e : NExpr) → nodes (renamed r e) ≤ nodes e
renamed_nodes r e = let w = renamed_within r e in omega (arith, w.whole)

pub renamed_alts : (r : Renaming) (alts : NAlts) → alts_nodes (put_in_alts variables coercion_variables r alts) ≤ alts_nodes alts
renamed_alts r alts = omega (arith, alts_within variables coercion_variables variables_light 0 nothing r (λ i. omega arith) alts (inl refl), no_gain (in_alts nothing alts))

pub moved_fields : (r : Renaming) (args : NArgs) → fields_nodes (moved_args r args) ≤ fields_nodes args
moved_fields r args = omega (arith, fields_within variables coercion_variables variables_light 0 nothing r (λ i. omega arith) args (inl refl), no_gain (in_fields nothing args))

pub renamed_field : (r : Renaming) (e : NExpr) → field (renamed r e) ≤ field e
renamed_field r e = let w = renamed_within r e in omega (arith, w.as_field)

-- EXPRESSIONS IN PLACE OF VARIABLES

expressions_light : StandsLight expressions
expressions_light = record {
  innermost = omega arith;
  past_type = renamed_field past_a_type;
  past_coercion = renamed_field past_a_coercion;
  past_value = renamed_field past_a_value;
  past_join = renamed_field past_a_join;
}

-- nothing that is put in is more than a variable
abbrev pub IsLight : Substitution → Type 0
IsLight r = (i : ℕ) → field (r.values i) ≤ 1

pub unchanged_light : IsLight unchanged
unchanged_light i = omega arith

pub value_light : (a : NExpr) (r : Substitution) → field a ≤ 1 → IsLight r → IsLight (with_argument (NATerm a) r)
value_light a r h light zero = h
value_light a r h light (suc i) = light i

-- no term among arguments is more than a variable
abbrev pub AreLight : NArgs → Type 0
AreLight NoNArgs = Unit {0}
AreLight (MoreNArgs (NATerm e) rest) = (field e ≤ 1) × AreLight rest
AreLight (MoreNArgs (NAType t) rest) = AreLight rest
AreLight (MoreNArgs (NACo g) rest) = AreLight rest

pub arguments_light : (args : NArgs) (r : Substitution) → AreLight args → IsLight r → IsLight (with_arguments args r)
arguments_light NoNArgs r h light = light
arguments_light (MoreNArgs (NATerm e) rest) r h light = arguments_light rest (with_argument (NATerm e) r) h.1 (value_light e r h.0 light)
arguments_light (MoreNArgs (NAType t) rest) r h light = arguments_light rest (with_argument (NAType t) r) h light
arguments_light (MoreNArgs (NACo g) rest) r h light = arguments_light rest (with_argument (NACo g) r) h light

pub trivial_light : (args : NArgs) → are_trivial args ≡ true → AreLight args
trivial_light NoNArgs h = tt
trivial_light (MoreNArgs (NATerm e) rest) h = let p = and_parts (is_trivial e) (are_trivial rest) h in (trivial_field e p.0, trivial_light rest p.1)
trivial_light (MoreNArgs (NAType t) rest) h = trivial_light rest h
trivial_light (MoreNArgs (NACo g) rest) h = trivial_light rest h

pub moved_light : (r : Renaming) (args : NArgs) → AreLight args → AreLight (moved_args r args)
moved_light r NoNArgs h = tt
moved_light r (MoreNArgs (NATerm e) rest) h = (omega (arith, renamed_field r e, h.0), moved_light r rest h.1)
moved_light r (MoreNArgs (NAType t) rest) h = moved_light r rest h
moved_light r (MoreNArgs (NACo g) rest) h = moved_light r rest h

light_fits : (r : Substitution) → IsLight r → (i : ℕ) → field (r.values i) ≤ 1 + 0
light_fits r light i = omega (arith, light i)

pub light_within : (r : Substitution) → IsLight r → (e : NExpr) → IsWithin 0 e (replaced r e)
light_within r light e =
    let d = occurrences nothing e in
    within_more (gain 0 d) 0 e (replaced r e) (omega (arith, no_gain d)) (put_within expressions whole_coercions expressions_light 0 nothing r (light_fits r light) e (inl refl))

pub light_nodes : (r : Substitution) → IsLight r → (e : NExpr) → nodes (replaced r e) ≤ nodes e
light_nodes r light e = let w = light_within r light e in omega (arith, w.whole)

pub light_alts : (r : Substitution) → IsLight r → (alts : NAlts) → alts_nodes (put_in_alts expressions whole_coercions r alts) ≤ alts_nodes alts
light_alts r light alts =
    omega (arith, alts_within expressions whole_coercions expressions_light 0 nothing r (light_fits r light) alts (inl refl), no_gain (in_alts nothing alts))

-- ONE EXPRESSION

alone_fits : (a : NExpr) (i : ℕ) → field ((value_alone a).values i) ≤ 1 + gain (nodes a + 1) ((innermost_values 1).values i)
alone_fits a zero = omega (arith, field_at_most a)
alone_fits a (suc i) = omega arith

alone_within : (a b : NExpr) → is_many (occurrences (innermost_values 1) b) ≡ false → IsWithin (gain (nodes a + 1) (occurrences (innermost_values 1) b)) b (replaced (value_alone a) b)
alone_within a b few = put_within expressions whole_coercions expressions_light (nodes a + 1) (innermost_values 1) (value_alone a) (alone_fits a) b (inr few)

-- where the innermost variable occurs at most once
pub once_put : (a b : NExpr) → is_many (occurrences (innermost_values 1) b) ≡ false → nodes (replaced (value_alone a) b) ≤ nodes b + (nodes a + 1)
once_put a b few = let w = alone_within a b few in omega (arith, w.whole, gain_at_most (nodes a + 1) (occurrences (innermost_values 1) b))

dead_few : (d : Occurrence) → is_dead d ≡ true → is_many d ≡ false
dead_few Dead h = refl
dead_few d h = false_true h

dead_gains : (m : ℕ) (d : Occurrence) → is_dead d ≡ true → gain m d ≡ 0
dead_gains m Dead h = refl
dead_gains m d h = false_true h

-- and where it does not occur
pub dead_put : (a b : NExpr) → is_dead (occurrences (innermost_values 1) b) ≡ true → nodes (replaced (value_alone a) b) ≤ nodes b
dead_put a b dead =
    let d = occurrences (innermost_values 1) b in
    let w = alone_within a b (dead_few d dead) in
    omega (arith, w.whole, dead_gains (nodes a + 1) d dead)

-- What is renamed keeps its numbers, and what one expression is put into once adds up.
use Rattle.std.proofs.Common.{◌≡◌, ◌≤◌, ◌+◌, ℕ, zero, suc, true, false, refl, arith, ap, inl, inr}
use Rattle.fc_model.specs.Nameless.{NArg, NATerm, NAType, NACo, NArgs, NAlts, NExpr, NLocal}
use Rattle.fc_model.specs.Replacing.{Renaming, coercion_variables, expressions, past_a_coercion, past_a_join, past_a_type, past_a_value, put_in_alts, renamed, replaced}
use Rattle.fc_model.specs.Replacing.{value_alone, variables, whole_coercions}
use Rattle.fc_model.specs.Typing.{is_atom}
use Rattle.fc_model.proofs.Sameness.{false_true}
use Rattle.fc_rows.specs.Occurrences.{Sought, no_ones, in_alts, in_field, in_fields, innermost_values, occurrences}
use Rattle.fc_rows.specs.Shrinking.{is_once, is_trivial, moved_arg, moved_args}
use Rattle.fc_rows.specs.declared.occurrence.Occurrence.{Occurrence}
use Rattle.fc_rows.specs.declared.occurrence.Occurrence.TheVariants.{Once}
use Rattle.fc_row_nodes.proofs.Gains.{is_many}
use Rattle.fc_row_nodes.proofs.Replaced as nodes
use Rattle.fc_row_ends.proofs.Counted.{alts_counted, fields_counted, nodes_counted, nodes_stay}
use Rattle.fc_row_ends.proofs.Drops.{Drops}
use Rattle.fc_row_ends.proofs.Gains.{gain, no_gain}
use Rattle.fc_row_ends.proofs.Numbers as number
use Rattle.fc_row_ends.proofs.Numbers.{Number, Nodes, Level, applied, count, extra, of_bind, outermost}
use Rattle.fc_row_ends.proofs.PutIn.{Fits, StandsLight, alts_most, atom_extra, field_put, fields_most, is_nodes, put_most}

-- nothing is sought
abbrev nothing : Sought
nothing = record { values = no_ones; joins = no_ones }

-- VARIABLES IN PLACE OF VARIABLES

still : (n : Number) (e : NExpr) → Drops n 0 e e
still n e = record { whole = λ l. omega arith; field = λ l. omega arith }

variable_still : (n : Number) (i j : ℕ) → Drops n 0 (NLocal i) (NLocal j)
variable_still n i j = record { whole = λ l. omega arith; field = λ l. omega arith }

variables_light : (n : Number) → StandsLight n variables
variables_light n = record {
  innermost = still n (NLocal 0);
  past_type = λ v. still n (NLocal v);
  past_coercion = λ v. still n (NLocal v);
  past_value = λ v. variable_still n v (suc v);
  past_join = λ v. still n (NLocal v);
}

module _ (n : Number) (other : is_nodes n ≡ false) (r : Renaming) where
  renamed_fits : Fits n other variables coercion_variables (variables_light n) 0 0 nothing.values r.values
  renamed_fits i = record { whole = λ l. omega arith; field = λ l. omega (arith, atom_extra n) }

  other_renamed : (e : NExpr) → Drops n 0 e (renamed r e)
  other_renamed e = record {
    whole = λ l. omega (arith, put_most n other variables coercion_variables (variables_light n) 0 0 nothing r renamed_fits e (inl refl) l, no_gain (occurrences nothing e));
    field = λ l. omega (
      arith,
      field_put n other variables coercion_variables (variables_light n) 0 0 nothing r renamed_fits e (inl refl)
          (λ few k. put_most n other variables coercion_variables (variables_light n) 0 0 nothing r renamed_fits e few k) l,
      no_gain (in_field nothing (NATerm e)),
    );
  }

  other_fields : (args : NArgs) (l : Level n) → number.in_fields n l (moved_args r args) ≤ number.in_fields n l args
  other_fields args l = omega (arith, fields_most n other variables coercion_variables (variables_light n) 0 0 nothing r renamed_fits args (inl refl) l, no_gain (in_fields nothing args))

  other_alts : (alts : NAlts) (l : Level n) → number.in_alts n l (put_in_alts variables coercion_variables r alts) ≤ number.in_alts n l alts
  other_alts alts l = omega (arith, alts_most n other variables coercion_variables (variables_light n) 0 0 nothing r renamed_fits alts (inl refl) l, no_gain (in_alts nothing alts))

pub renamed_still : (n : Number) (r : Renaming) (e : NExpr) → Drops n 0 e (renamed r e)
renamed_still Nodes r e = nodes_stay e (renamed r e) (nodes.renamed_within r e)
renamed_still n r e = other_renamed n refl r e

pub renamed_count : (n : Number) (r : Renaming) (e : NExpr) (l : Level n) → count n l (renamed r e) ≤ count n l e
renamed_count n r e l = let d = renamed_still n r e in omega (arith, d.whole l)

pub renamed_alts : (n : Number) (r : Renaming) (alts : NAlts) (l : Level n) → number.in_alts n l (put_in_alts variables coercion_variables r alts) ≤ number.in_alts n l alts
renamed_alts Nodes r alts l = omega (arith, nodes.renamed_alts r alts, alts_counted l alts, alts_counted l (put_in_alts variables coercion_variables r alts))
renamed_alts n r alts l = other_alts n refl r alts l

pub moved_fields : (n : Number) (r : Renaming) (args : NArgs) (l : Level n) → number.in_fields n l (moved_args r args) ≤ number.in_fields n l args
moved_fields Nodes r args l = omega (arith, nodes.moved_fields r args, fields_counted l args, fields_counted l (moved_args r args))
moved_fields n r args l = other_fields n refl r args l

pub moved_applied : (n : Number) (r : Renaming) (a : NArg) (l : Level n) → applied n l (moved_arg r a) ≤ applied n l a
moved_applied n r (NATerm e) l = omega (arith, renamed_count n r e l)
moved_applied n r (NAType t) l = omega arith
moved_applied n r (NACo g) l = omega arith

-- ONE EXPRESSION

expressions_light : (n : Number) → StandsLight n expressions
expressions_light n = record {
  innermost = still n (NLocal 0);
  past_type = renamed_still n past_a_type;
  past_coercion = renamed_still n past_a_coercion;
  past_value = renamed_still n past_a_value;
  past_join = renamed_still n past_a_join;
}

once_few : (d : Occurrence) → is_once d ≡ true → is_many d ≡ false
once_few Once h = refl
once_few d h = false_true h

once_gains : (m x : ℕ) (d : Occurrence) → is_once d ≡ true → gain m x d ≡ m
once_gains m x Once h = refl
once_gains m x d h = false_true h

-- where all levels are one
module _ (n : Number) (other : is_nodes n ≡ false) (alike : (k l : Level n) → k ≡ l) (a : NExpr) where
  same_count : (l : Level n) → count n l a ≡ count n (outermost n) a
  same_count l = ap (λ k. count n k a) (alike l (outermost n))

  alone_fits : Fits n other expressions whole_coercions (expressions_light n) (count n (outermost n) a) (extra n (is_atom a) (is_trivial a)) (innermost_values 1).values (value_alone a).values
  alone_fits zero = record { whole = λ l. omega (arith, same_count l); field = λ l. omega (arith, same_count l) }
  alone_fits (suc i) = record { whole = λ l. omega arith; field = λ l. omega (arith, atom_extra n) }

  other_put : (b : NExpr) → is_once (occurrences (innermost_values 1) b) ≡ true → (l : Level n) → count n l (replaced (value_alone a) b) ≤ count n l b + count n l a
  other_put b once l =
      let d = occurrences (innermost_values 1) b in
      let x = extra n (is_atom a) (is_trivial a) in
      let most = put_most n other expressions whole_coercions (expressions_light n) (count n (outermost n) a) x (innermost_values 1) (value_alone a) alone_fits b (inr (once_few d once)) l in
      omega (arith, most, once_gains (count n (outermost n) a) x d once, same_count l)

-- with what binds it
pub once_put : (n : Number) → ((k l : Level n) → k ≡ l) → (a b : NExpr) → is_once (occurrences (innermost_values 1) b) ≡ true → (l : Level n)
    → count n l (replaced (value_alone a) b) ≤ count n l b + (of_bind n + count n l a)
once_put Nodes alike a b once l =
    let few = once_few (occurrences (innermost_values 1) b) once in
    omega (arith, nodes.once_put a b few, nodes_counted l a, nodes_counted l b, nodes_counted l (replaced (value_alone a) b))
once_put n alike a b once l = omega (arith, other_put n refl alike a b once l)

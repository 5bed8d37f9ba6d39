-- What code substitutes, as a replacement of all variables at once.
use Rattle.std.specs.Prelude.{ℕ, ◌+◌, ◌-◌, nat_lt, if◌then◌else◌}
use Rattle.fc_model.specs.Nameless.{NTy, NTVar, NGVar, NLocal, NATerm, NAType, NACo}
use Rattle.fc_model.specs.NamelessView.{nco_of, nexpr_of, nty_of}
use Rattle.fc_model.specs.Replacing.{Renaming, Substitution, renamed, renamed_coercion, unchanged, with_argument}
use Rattle.fc_model.specs.Substituting.{renamed_type}
use Rattle.fc_subst.specs.declared.replacement.Lifted.{Lifted}
use Rattle.fc_subst.specs.declared.replacement.Replacement as by
use Rattle.fc_subst.specs.declared.shift.Shift.{Shift}

abbrev pub past_types : Shift → ℕ → NTy
past_types p i = NTVar (i + p.types)

abbrev pub past_coercions : Shift → ℕ → ℕ
past_coercions p i = i + p.coercions

-- each variable for itself, past so many binders more
abbrev pub renaming_of : Shift → Renaming
renaming_of p = record { types = past_types p; coercions = past_coercions p; values = λ i. i + p.values; joins = λ i. i + p.joins }

-- the same, as what is put in
abbrev pub past_all : Shift → Substitution
past_all p = record { types = past_types p; coercions = λ i. NGVar (i + p.coercions); values = λ i. NLocal (i + p.values); joins = λ i. i + p.joins }

-- each variable for itself, without so many of the innermost binders
abbrev pub without : Shift → Substitution
without p = record { types = λ i. NTVar (i - p.types); coercions = λ i. NGVar (i - p.coercions); values = λ i. NLocal (i - p.values); joins = λ i. i - p.joins }

abbrev pub replacement_of : by.Replacement → Substitution
replacement_of by.Same = unchanged
replacement_of (by.Past p) = past_all p
replacement_of (by.Without p) = without p
replacement_of (by.Value' e l rest) = with_argument (NATerm (nexpr_of e.now)) (replacement_of rest)
replacement_of (by.Type' t l rest) = with_argument (NAType (nty_of t.now)) (replacement_of rest)
replacement_of (by.Coercion' g l rest) = with_argument (NACo (nco_of g.now)) (replacement_of rest)

-- So many of the innermost variables of each space stand for themselves, and what stands in place of the others goes past the binders of these.
unfoldable pub lifted : Shift → Substitution → Substitution
lifted p r = record {
  types = λ i. if nat_lt i p.types then NTVar i else renamed_type (λ j. j + p.types) (r.types (i - p.types));
  coercions = λ i. if nat_lt i p.coercions then NGVar i else renamed_coercion (past_types p) (past_coercions p) (r.coercions (i - p.coercions));
  values = λ i. if nat_lt i p.values then NLocal i else renamed (renaming_of p) (r.values (i - p.values));
  joins = λ i. if nat_lt i p.joins then i else r.joins (i - p.joins) + p.joins;
}

abbrev pub lifted_of : Lifted → Substitution
lifted_of l = lifted l.past (replacement_of l.replacement.now)

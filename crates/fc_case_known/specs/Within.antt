-- What is made of a case where a constructor that it looks at has no more terms than a declaration may be deep.
use Rattle.std.specs.Prelude.{Bool, true, nat_le, if◌then◌else◌, List, Option, Some, None}
use Rattle.fc_syntax.specs.declared.expr.Head.TheVariants as head
use Rattle.fc_model.specs.Kinding.{Modules}
use Rattle.fc_model.specs.Nameless.{NArgs, NBinder, NExpr, NCase, NCon}
use Rattle.fc_rows.specs.Shrinking.{alternative_of, case_known, term_count}
use Rattle.fc_rows.specs.Surroundings.{Surroundings}

-- whether the arguments of a constructor, which may have an alternative of its own, are at most 500 terms where it has one
abbrev pub are_few_terms : NArgs → Option (List NBinder × NExpr) → Bool
are_few_terms args (Some a) = nat_le (term_count args) 500
are_few_terms args None = true

-- whether a case of a constructor that has an alternative of its own has no more terms than a declaration may be deep
abbrev pub has_few_terms : NExpr → Bool
has_few_terms (NCase (NCon n args) xt rt alts) = are_few_terms args (alternative_of (head.Con n) alts)
has_few_terms e = true

-- what case_known makes where that is so
abbrev pub case_known_within : Modules → Surroundings → NExpr → Option NExpr
case_known_within ms s e = if has_few_terms e then case_known ms s e else None

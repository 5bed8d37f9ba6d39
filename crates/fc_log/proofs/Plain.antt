-- The words of a log have only plain bytes.
use Rattle.std.proofs.Common.{◌≡◌, ℕ, ◌^◌, ◌<◌, true, List, [], ◌∷◌, refl, ◌∙◌, arith}
use Rattle.std.specs.Prelude.{All}
use Rattle.std.specs.Fmt.{decimal}
use Rattle.std.specs.List.{list_all}
use Rattle.std.proofs.lemmas.Bool.{and_from}
use Rattle.std.proofs.lemmas.List.Elements.{All-head, All-tail}
use Rattle.std.proofs.lemmas.List.Folds.{list_all-append}
use Rattle.fc_syntax.specs.Tokens.{is_lower_name, is_plain}
use Rattle.fc_syntax.proofs.NameWords.{name_is_plain, name_parts}
use Rattle.fc_lex.proofs.Printed.{decimal_plain}
use Rattle.fc_log.specs.declared.log.Phase.{Phase}
use Rattle.fc_log.specs.declared.log.Phase.TheVariants as phase
use Rattle.fc_log.specs.declared.log.Row.{Row}
use Rattle.fc_log.specs.declared.log.Row.TheVariants as row
use Rattle.fc_log.specs.Names.{phase_text, row_text}
use Rattle.fc_log.specs.Texts.{path_text}

pub row_plain : (r : Row) → list_all is_plain (row_text r) ≡ true
row_plain row.Beta = refl
row_plain r = refl

pub phase_plain : (p : Phase) → list_all is_plain (phase_text p) ≡ true
phase_plain phase.Simplify = refl
phase_plain p = refl

pub path_plain : (ns : List ℕ) → All (λ n. n < 10 ^ 9) ns → list_all is_plain (path_text ns) ≡ true
path_plain [] a = refl
path_plain (n ∷ []) a = let h : n < 10 ^ 9 = All-head (λ n. n < 10 ^ 9) n [] a in decimal_plain n (omega arith)
path_plain (n ∷ m ∷ ns) a =
    let h : n < 10 ^ 9 = All-head (λ n. n < 10 ^ 9) n (m ∷ ns) a in
    list_all-append is_plain (decimal n) (46 ∷ path_text (m ∷ ns))
    ∙ and_from (list_all is_plain (decimal n)) (list_all is_plain (path_text (m ∷ ns))) (decimal_plain n (omega arith)) (path_plain (m ∷ ns) (All-tail (λ n. n < 10 ^ 9) n (m ∷ ns) a))

pub lower_plain : (w : List ℕ) → is_lower_name w ≡ true → list_all is_plain w ≡ true
lower_plain [] h = refl
lower_plain (b ∷ bs) h = name_is_plain b bs (name_parts b bs (rw h refl))

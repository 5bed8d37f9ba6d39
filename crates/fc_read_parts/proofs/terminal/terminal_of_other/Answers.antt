use Rattle.std.proofs.Common.{◌≡◌, ◌+◌, ◌-◌, ℕ, true, List, length, take, drop, sym, ap, ◌∙◌, arith, length-drop}
use Rattle.std.proofs.Math.Seq.{take-length}
use Rattle.std.specs.Prelude.{not, if◌then◌else◌}
use Rattle.std.specs.List.{list_any, suffix_len, before_last, after_last}
use Rattle.fc_syntax.specs.Tokens.{is_dot}
use Rattle.fc_model.specs.Words.{Tok, dotted_tok, keyword_of, undotted_tok, word_tok}
use Rattle.fc_read_parts.proofs.terminal.terminal_of_other.Goals as goal

-- the last part of a word with a dot begins behind its last dot
at_last_dot : (w : List ℕ) (n : ℕ) (t : Tok) → list_any is_dot w ≡ true → n + suffix_len (λ b. not (is_dot b)) w ≡ length w
    → t ≡ dotted_tok (keyword_of (take (length w - n) (drop n w))) (take (n - 1) w) (take (length w - n) (drop n w)) → t ≡ word_tok w
at_last_dot w n t d v e =
    let whole : take (length w - n) (drop n w) ≡ drop n w = ap (λ k. take k (drop n w)) (sym (length-drop n w)) ∙ take-length (drop n w) in
    let start : n ≡ length w - suffix_len (λ b. not (is_dot b)) w = omega arith in
    e
    ∙ (ap (λ u. dotted_tok (keyword_of u) (take (n - 1) w) u) whole
    ∙ (ap (λ k. dotted_tok (keyword_of (drop k w)) (take (k - 1) w) (drop k w)) start
    ∙ sym (ap (λ b. if b then dotted_tok (keyword_of (after_last is_dot w)) (before_last is_dot w) (after_last is_dot w) else undotted_tok (keyword_of w) w) d)))

pub returns-then-start-gt0 : goal.returns-then-start-gt0
returns-then-start-gt0 c =
    at_last_dot c.args.word.now c.last_part-start.result _ (c.last_part-start.ensures.dotted.1 c.if-start-gt0.true) c.last_part-start.ensures.value c.terminal_of_dotted.ensures

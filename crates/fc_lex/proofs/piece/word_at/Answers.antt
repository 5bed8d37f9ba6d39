use Rattle.std.proofs.Common.{get_or, rules, sym, ◌∙◌}
use Rattle.fc_syntax.proofs.Lexing.{class_plain}
use Rattle.fc_lex.proofs.Plain.{name_read, word_end_from}
use Rattle.fc_lex.proofs.Steps.{word_read, word_fault}
use Rattle.fc_lex.proofs.piece.word_at.Goals as goal

pub returns-then-starts_name-clause-read : goal.returns-then-starts_name-clause-read
returns-then-starts_name-clause-read c =
    rw c.token.ensures
    (name_read c.args.bytes.now c.args.at c.name_bytes_end-names.result c.word_end-end.result c.requires.inside c.requires.plain
    c.name_bytes_end-names.ensures.value c.word_end-end.ensures.value c.if-end-names.true (sym c.starts_name.ensures ∙ c.if-starts_name.true))

pub returns-in_ok-kind-clause-read : goal.returns-in_ok-kind-clause-read
returns-in_ok-kind-clause-read c =
    let end = word_end_from c.args.bytes.now c.args.at c.name_bytes_end-names.result c.word_end-end.result c.requires.inside
    (class_plain (get_or c.args.bytes.now c.args.at 0) c.requires.plain) c.name_bytes_end-names.ensures.value c.word_end-end.ensures.value in
    rw c.token-else-end-names.ensures
    (word_read c.args.bytes.now c.args.at c.word_end-end.result c.in_ok-kind.kind c.requires.inside c.requires.plain end c.in_ok-kind.ensures.kind)

pub returns-in_err-kind-clause-fault : goal.returns-in_err-kind-clause-fault
returns-in_err-kind-clause-fault c =
    let end = word_end_from c.args.bytes.now c.args.at c.name_bytes_end-names.result c.word_end-end.result c.requires.inside
    (class_plain (get_or c.args.bytes.now c.args.at 0) c.requires.plain) c.name_bytes_end-names.ensures.value c.word_end-end.ensures.value in
    let f = word_fault c.args.bytes.now c.args.at c.word_end-end.result c.in_err-kind.field-0.0 c.requires.inside c.requires.plain end c.in_err-kind.ensures.fault in
    search (rules, f)

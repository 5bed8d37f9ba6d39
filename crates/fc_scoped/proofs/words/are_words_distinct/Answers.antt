use Rattle.std.proofs.Common.{◌+◌, arith, drop}
use Rattle.std.proofs.lemmas.Grind.{common_steps}
use Rattle.fc_model.specs.NamelessView.{ndecls_of}
use Rattle.fc_scoped.proofs.words.are_words_distinct.Goals as goal

pub returns-then-not-branch : goal.returns-then-not-branch
returns-then-not-branch c =
    grind (arith, common_steps, c.in_ok-add_words.ensures (ndecls_of (drop (c.loop-decl.decl-index + 1) c.args.decls.now)))

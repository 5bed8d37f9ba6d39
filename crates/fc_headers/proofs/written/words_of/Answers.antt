use Rattle.std.proofs.Common.{rules}
use Rattle.fc_syntax.specs.View.{decls_of}
use Rattle.fc_model.proofs.Declares.{bare_declared_words}
use Rattle.fc_headers.proofs.written.words_of.Goals as goal

pub returns : goal.returns
returns c = rw (bare_declared_words (decls_of c.args.decls.now)) (search rules)

use Rattle.std.proofs.Common.{refl}
use Rattle.fc_model.specs.DeclaredWords.{top_by}
use Rattle.fc_scope.specs.ScopeWords.{locals_of}
use Rattle.fc_naming.specs.Taken.{words_around}
use Rattle.fc_naming.proofs.NewWords.{new_takes, word_of_binder}
use Rattle.fc_naming.proofs.binders.new_binder.Goals as goal

pub returns : goal.returns
returns c =
    let around = words_around (top_by c.args.top.now) (locals_of c.args.scope.now) in
    new_takes (c.in_ok-binder.ensures around _ (word_of_binder around c.space.ensures c.hint.ensures (rw c.in-Some.is at c.in_ok-word.ensures)) refl)

use Rattle.fc_def_dead.proofs.dropping.drop_dead.Goals as goal

pub returns-in-None-clause-none : goal.returns-in-None-clause-none
returns-in-None-clause-none c is_false k d = c.in_ok-dead.ensures.none c.in-None.is k d

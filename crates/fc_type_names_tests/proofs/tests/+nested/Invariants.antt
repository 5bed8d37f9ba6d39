use Rattle.fc_type_names_tests.proofs.tests.+nested.Given as goal

abbrev pub decreases-nested : goal.decreases-nested
decreases-nested l = l.times

use Rattle.fc_types.proofs.keys.number_named.Goals as goal

pub returns-in-Some-clause-value : goal.returns-in-Some-clause-value
returns-in-Some-clause-value g c = rw (c.in-Some.is, ← c.as_str.ensures, ← c.as_str-in-Some.ensures) c.get_index_of.ensures.value

use Rattle.std.proofs.Common.{Some, None}
use Rattle.fc_types.proofs.ByNumber.{constructor_is, value_at}
use Rattle.fc_types.specs.Listed.{constructors_in, own_constructor, own_constructors}
use Rattle.fc_types.specs.TableViews.{constructor_of}
use Rattle.fc_types.proofs.declarations.Declarations.constructor_at.Goals as goal

pub returns-in-None-clause-value : goal.returns-in-None-clause-value
unfolding constructors_in
returns-in-None-clause-value c = value_at constructor_of c.args.self.now.tables.constructors.entries c.args.number None c.in-None.ensures.entry

pub returns-in-None-clause-own : goal.returns-in-None-clause-own
unfolding own_constructors
returns-in-None-clause-own c = value_at own_constructor c.args.self.now.tables.constructors.entries c.args.number None c.in-None.ensures.entry

pub returns-in-Some-clause-value : goal.returns-in-Some-clause-value
unfolding constructors_in
returns-in-Some-clause-value c =
    value_at constructor_of c.args.self.now.tables.constructors.entries c.args.number (Some (c.in-Some.field-0-0.now, c.in-Some.con.now)) c.in-Some.ensures.entry

pub returns-in-Some-clause-own : goal.returns-in-Some-clause-own
unfolding own_constructors
returns-in-Some-clause-own c =
    value_at own_constructor c.args.self.now.tables.constructors.entries c.args.number (Some (c.in-Some.field-0-0.now, c.in-Some.con.now)) c.in-Some.ensures.entry

pub returns-in-Some-clause-declared : goal.returns-in-Some-clause-declared
returns-in-Some-clause-declared c = constructor_is c.args.self.now c.in-Some.field-0-0.now c.in-Some.con.now c.in-Some.ensures.value

use Rattle.std.proofs.Common.{refl}
use Rattle.fc_model.specs.FileForms.{InterfaceFile}
use Rattle.fc_model.specs.Grammar.{AnItem, Many}
use Rattle.fc_model.specs.Texts.{SomeMembersAt}
use Rattle.fc_read_parts.specs.Seen.{ahead}
use Rattle.fc_reader.specs.declared.limits.Halt.TheVariants as halt
use Rattle.fc_reader.specs.Halting.{Halts}
use Rattle.fc_reader.proofs.Steps.{err_is}
use Rattle.fc_read_interface.proofs.Collected.{collected_deep, collected_deeper, collected_more, collected_much, collected_none, collected_stops}
use Rattle.fc_read_interface.proofs.items.read_items.Goals as goal

pub each-init : goal.each-init
each-init c = collected_none c.args.room (ahead c.args.tokens.now) c.new-all.result c.new-all.ensures

pub returns-in_err-item-clause-halt : goal.returns-in_err-item-clause-halt
returns-in_err-item-clause-halt c =
    let s = c.in_err-item.field-0.0 in
    err_is (Halts InterfaceFile c.args.room (SomeMembersAt InterfaceFile) (Many AnItem) (ahead c.args.tokens.now)) _ (halt.Stop s) c.from_residual.ensures.1
    (collected_stops c.args.room (ahead c.args.tokens.now) (ahead c.each.tokens) (ahead c.closes.new.tokens) c.each.all c.each.size s c.each.invariant (c.if-closes.ensures.open refl) c.in_err-item.ensures.fault)

pub returns-in_default-clause-halt : goal.returns-in_default-clause-halt
returns-in_default-clause-halt c =
    collected_deeper c.args.room (ahead c.args.tokens.now) (ahead c.each.tokens) (ahead c.closes.new.tokens) (ahead c.read_item.new.tokens) c.each.all c.each.size c.left-left.result c.in_ok-item.item c.each.invariant
    (c.if-closes.ensures.open refl) c.in_ok-item.ensures.read c.left-left.ensures (rw c.in_default.is at c.in_ok-decl.ensures)

pub returns-in-Deep-clause-halt : goal.returns-in-Deep-clause-halt
returns-in-Deep-clause-halt c =
    collected_deep c.args.room (ahead c.args.tokens.now) (ahead c.each.tokens) (ahead c.closes.new.tokens) (ahead c.read_item.new.tokens) c.each.all c.each.size c.left-left.result c.in_ok-item.item c.in-Some.decl
    c.in-Some.known c.each.invariant (c.if-closes.ensures.open refl) c.in_ok-item.ensures.read c.left-left.ensures (rw c.in-Some.is at c.in_ok-decl.ensures) c.in-Deep.ensures

pub returns-in-Much-clause-halt : goal.returns-in-Much-clause-halt
returns-in-Much-clause-halt c =
    collected_much c.args.room (ahead c.args.tokens.now) (ahead c.each.tokens) (ahead c.closes.new.tokens) (ahead c.read_item.new.tokens) c.each.all c.each.size c.left-left.result c.in_ok-item.item c.in-Some.decl
    c.in-Some.known c.each.invariant (c.if-closes.ensures.open refl) c.in_ok-item.ensures.read c.left-left.ensures (rw c.in-Some.is at c.in_ok-decl.ensures) c.in-Much.ensures

pub each-preserved : goal.each-preserved
each-preserved c =
    collected_more c.args.room (ahead c.args.tokens.now) (ahead c.each.tokens) (ahead c.closes.new.tokens) (ahead c.read_item.new.tokens) c.each.all c.add.new.self c.each.size c.in-Fits.all c.in_ok-item.item c.in-Some.decl
    c.in-Some.known c.each.invariant (c.if-closes.ensures.open refl) c.in_ok-item.ensures.read c.in_ok-item.ensures.shorter (rw c.in-Some.is at c.in_ok-decl.ensures) c.in-Fits.ensures
    (record { decls = c.in_ok-add.ensures.decls; sigs = c.in_ok-add.ensures.sigs; told = c.in_ok-add.ensures.told })

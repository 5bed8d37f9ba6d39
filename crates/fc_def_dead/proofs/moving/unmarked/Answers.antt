use Rattle.std.proofs.Common.{◌∙◌, ap, length, refl, sym, arith}
use Rattle.std.proofs.lemmas.List.{length-set}
use Rattle.fc_def_dead.specs.Dead.{without_marked}
use Rattle.fc_def_dead.proofs.Moved.{all_moved, has_room, item_at, left_count, none_moved, one_moved}
use Rattle.fc_def_dead.proofs.moving.unmarked.Goals as goal
use Rattle.fc_def_dead.proofs.moving.unmarked.Goals.{then-not-marked, else-not-marked}

pub loop-number-init : goal.loop-number-init
loop-number-init c = record {
  within = omega arith;
  count = sym c.requires.count;
  room = c.requires.room ∙ left_count c.args.marks.now c.args.decls c.requires.count;
  moved = refl;
}

pub exchange-requires-clause-at : goal.exchange-requires-clause-at
exchange-requires-clause-at c =
    has_room c.args.marks.now c.loop-number.from c.loop-number.to (without_marked c.args.marks.now c.args.decls) c.loop-number.at c.loop-number.number c.loop-number-test.true c.loop-number.invariant.count c.if-not-marked.true
    c.loop-number.invariant.moved c.loop-number.invariant.room

pub loop-number-preserved : goal.loop-number-preserved
loop-number-preserved c =
    let marks = c.args.marks.now in
    let from = c.loop-number.from in
    let to = c.loop-number.to in
    let target = without_marked marks c.args.decls in
    let at = c.loop-number.at in
    let number = c.loop-number.number in
    let before = c.loop-number.invariant in
    let low = c.loop-number-test.true in
    elim c.if-not-marked.branch [
      | then-not-marked w ↦ (
          let room = has_room marks from to target at number low before.count w.if-not-marked.true before.moved before.room in
          let f = item_at from number (omega (arith, low, before.count)) in
          rw (w.from-is, w.to-is, w.at-is) (record {
            within = omega (arith, before.within);
            count = w.exchange.ensures.length ∙ before.count;
            room = ap length (w.exchange.ensures.to f.item) ∙ length-set to at _ ∙ before.room;
            moved = one_moved marks from to target at number w.exchange.new.from w.exchange.new.to low before.count w.if-not-marked.true room before.moved w.exchange.ensures.from w.exchange.ensures.to;
          })
          )
      | else-not-marked w ↦
          rw (w.from-is, w.to-is, w.at-is) (record {
            within = omega (arith, before.within);
            count = before.count;
            room = before.room;
            moved = none_moved marks from to target at number low before.count w.if-not-marked.false before.moved;
          })
    ]

pub returns : goal.returns
returns c = all_moved c.args.marks.now c.loop-number.from c.loop-number.to (without_marked c.args.marks.now c.args.decls) c.loop-number.at c.loop-number.number c.loop-number-test.false c.loop-number.invariant.moved c.loop-number.invariant.room

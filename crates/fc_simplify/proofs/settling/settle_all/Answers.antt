use Rattle.std.proofs.Common.{◌≡◌, [], rules, sym, ◌∙◌}
use Rattle.fc_model.specs.NamelessView.{nmodules_of}
use Rattle.fc_type_table.proofs.Numbers.{Grows-further}
use Rattle.fc_simplify.proofs.Keeping.{headers_both, headers_stay}
use Rattle.fc_simplify.proofs.Logs.{continues_both}
use Rattle.fc_simplify.proofs.Marked.{defines_first, never_empty, settled_all, settled_more, settled_past}
use Rattle.fc_simplify.proofs.settling.settle_all.Goals.{then-first+in_ok-one+then-one+in_ok-push, then-first+in_ok-one+else-one, else-first}
use Rattle.fc_simplify.proofs.settling.settle_all.Goals as goal

pub settle-requires-clause-first : goal.settle-requires-clause-first
settle-requires-clause-first c =
    defines_first (nmodules_of c.args.modules.now) (nmodules_of c.loop-number.modules) c.args.firsts.now c.loop-number.number c.requires.firsts c.loop-number.invariant.keeps.words c.loop-number-test.true c.if-first.true

pub settle-requires-clause-headers : goal.settle-requires-clause-headers
settle-requires-clause-headers c =
    headers_stay c.args.types.now c.loop-number.types c.args.headers.now (nmodules_of c.args.modules.now) (nmodules_of c.loop-number.modules) c.loop-number.invariant.grows
    c.loop-number.invariant.keeps c.requires.headers

pub returns-in_err-one-clause-continues : goal.returns-in_err-one-clause-continues
returns-in_err-one-clause-continues c =
    continues_both (nmodules_of c.args.modules.now) (nmodules_of c.loop-number.modules) (nmodules_of c.settle.new.modules) c.args.log.now c.loop-number.log c.settle.new.log
    c.loop-number.invariant.continues c.in_err-one.ensures.continues

pub returns-in_err-push-clause-continues : goal.returns-in_err-push-clause-continues
returns-in_err-push-clause-continues c =
    continues_both (nmodules_of c.args.modules.now) (nmodules_of c.loop-number.modules) (nmodules_of c.settle.new.modules) c.args.log.now c.loop-number.log c.settle.new.log
    c.loop-number.invariant.continues c.in_ok-one.ensures.continues

pub returns-clause-settled : goal.returns-clause-settled
returns-clause-settled c = λ none. settled_all c.args.spare c.args.firsts.now c.args.modules.now c.loop-number.number (c.loop-number.invariant.settled none) c.loop-number-test.false

pub loop-number-preserved : goal.loop-number-preserved
loop-number-preserved c =
    let before = nmodules_of c.args.modules.now in
    let so_far = nmodules_of c.loop-number.modules in
    let marks = c.args.firsts.now in
    let number = c.loop-number.number in
    elim c.if-first.branch [
      | then-first+in_ok-one+then-one+in_ok-push w ↦
          let some : (c.if-first.changed.items ≡ []) → ⊥ = λ none. never_empty c.loop-number.changed.items number (sym (search rules) ∙ none) in
          record {
            continues = continues_both before so_far (nmodules_of c.if-first.modules) c.args.log.now c.loop-number.log c.if-first.log c.loop-number.invariant.continues (search rules);
            keeps = headers_both before so_far (nmodules_of c.if-first.modules) c.loop-number.invariant.keeps (search rules);
            grows = Grows-further c.args.types.now c.loop-number.types c.if-first.types c.loop-number.invariant.grows (search rules);
            spare = search rules;
            unchanged = λ none. absurd (some none);
            settled = λ none. absurd (some none);
          }
      | then-first+in_ok-one+else-one w ↦ record {
        continues = continues_both before so_far (nmodules_of c.if-first.modules) c.args.log.now c.loop-number.log c.if-first.log c.loop-number.invariant.continues (search rules);
        keeps = headers_both before so_far (nmodules_of c.if-first.modules) c.loop-number.invariant.keeps (search rules);
        grows = Grows-further c.args.types.now c.loop-number.types c.if-first.types c.loop-number.invariant.grows (search rules);
        spare = search rules;
        unchanged = search rules;
        settled = λ none. settled_more c.args.spare marks c.args.modules.now number c.loop-number.left c.loop-number.modules (search rules) (search rules) (search rules) (search rules);
      }
      | else-first w ↦ record {
        continues = search rules;
        keeps = search rules;
        grows = search rules;
        spare = search rules;
        unchanged = search rules;
        settled = λ none. settled_past c.args.spare marks c.args.modules.now number (search rules) c.loop-number-test.true (search rules);
      }
    ]

use Rattle.std.proofs.Common.{rules, arith}
use Rattle.fc_syntax.specs.View.{kind_of}
use Rattle.fc_syntax.proofs.View.{view_rules}
use Rattle.fc_used_words.proofs.Collecting.{adds_allco, adds_axiom, adds_capp, adds_coallco, adds_cos, adds_funco, adds_inst, adds_tc, adds_trans, adds_univ, co_below}
use Rattle.fc_used_words.proofs.used_types.+coercions.Goals as goal

pub use_co-returns-in_ok-use_co-in-Trans-2 : goal.use_co-returns-in_ok-use_co-in-Trans-2
use_co-returns-in_ok-use_co-in-Trans-2 t c = adds_trans c.in_ok-use_co-in-Trans.ensures c.in_ok-use_co-in-Trans-2.ensures (search (rules, view_rules))

pub use_co-returns-in_ok-use_co-in-Capp-2 : goal.use_co-returns-in_ok-use_co-in-Capp-2
use_co-returns-in_ok-use_co-in-Capp-2 t c = adds_capp c.in_ok-use_co-in-Capp.ensures c.in_ok-use_co-in-Capp-2.ensures (search (rules, view_rules))

pub use_co-returns-in_ok-use_co-in-FunCo-2 : goal.use_co-returns-in_ok-use_co-in-FunCo-2
use_co-returns-in_ok-use_co-in-FunCo-2 t c = adds_funco c.in_ok-use_co-in-FunCo.ensures c.in_ok-use_co-in-FunCo-2.ensures (search (rules, view_rules))

pub use_co-returns-in_ok-use_co-in-Inst-2 : goal.use_co-returns-in_ok-use_co-in-Inst-2
use_co-returns-in_ok-use_co-in-Inst-2 t c = adds_inst c.in_ok-use_co-in-Inst.ensures c.in_ok-use_co-in-Inst-2.ensures (search (rules, view_rules))

pub use_co-returns-in_ok-use_co-in-CoAllCo-3 : goal.use_co-returns-in_ok-use_co-in-CoAllCo-3
use_co-returns-in_ok-use_co-in-CoAllCo-3 t c = adds_coallco {r = c.in-CoAllCo.field-0} {e = c.in-CoAllCo.field-1} c.in_ok-use_co-in-CoAllCo.ensures c.in_ok-use_co-in-CoAllCo-2.ensures c.in_ok-use_co-in-CoAllCo-3.ensures (search (rules, view_rules))

pub use_co-returns-in_ok-use_ty-in-Univ-2 : goal.use_co-returns-in_ok-use_ty-in-Univ-2
use_co-returns-in_ok-use_ty-in-Univ-2 t c = adds_univ c.in_ok-use_ty-in-Univ.ensures c.in_ok-use_ty-in-Univ-2.ensures (search (rules, view_rules))

pub use_cos-loop-g-preserved : goal.use_cos-loop-g-preserved
use_cos-loop-g-preserved t c =
    adds_cos c.args.gs.now c.loop-g.g-index c.g-item.result _ _ _ (omega arith) c.g-item.is c.loop-g.invariant c.in_ok-use_co.ensures

pub use_co-returns-in_ok-use_cos-in-Tc : goal.use_co-returns-in_ok-use_cos-in-Tc
use_co-returns-in_ok-use_cos-in-Tc t c = adds_tc {r = c.in-Tc.field-0} {x = c.in-Tc.field-1} c.in_ok-use_cos-in-Tc.ensures (search (rules, view_rules))

pub use_co-returns-in_ok-use_cos-in-Ax : goal.use_co-returns-in_ok-use_cos-in-Ax
use_co-returns-in_ok-use_cos-in-Ax t c = adds_axiom {x = c.in-Ax.field-0} c.in_ok-use_cos-in-Ax.ensures (search (rules, view_rules))

pub use_co-returns-in_ok-use_co-in-AllCo : goal.use_co-returns-in_ok-use_co-in-AllCo
use_co-returns-in_ok-use_co-in-AllCo t c =
    adds_allco {x = kind_of c.in-AllCo.field-1} (co_below c.in_ok-use_co-in-AllCo.ensures (search rules)) (search (rules, view_rules))

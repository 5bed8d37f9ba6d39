-- What is known where a coercion is judged, while the table grows.
use Rattle.std.proofs.Common.{◌≡◌, subst, List, Result, Ok, Err, OnOk}
use Rattle.fc_syntax.specs.Tree.{Kind}
use Rattle.fc_syntax.specs.declared.ty.Role.{Role}
use Rattle.fc_model.specs.Coercing.{Ends, applied_ends, coforall_ends}
use Rattle.fc_model.specs.Kinding.{Modules}
use Rattle.fc_model.specs.Says.{Says}
use Rattle.fc_model.specs.declared.flaw.Flawed.{Flawed}
use Rattle.fc_type_table.proofs.Numbers.{Grows-further}
use Rattle.fc_type_table.specs.TypeTables.{Grows}
use Rattle.fc_type_table.specs.declared.table.TypeTable.{TypeTable}

-- a table that had grown, and may have grown further
pub grows_on : {X : Type 0} (r : Result X Flawed) (old mid new : TypeTable) → Grows old mid → OnOk r (Grows mid new) → OnOk r (Grows old new)
grows_on (Ok x) old mid new g h = Grows-further old mid new g h
grows_on (Err e) old mid new g h = tt

-- what is told by the modules of a table, and of ends that are shown by a later one
module _ {X : Type 0} (v : X → Ends) (a : Result X Flawed) (ns ms : Modules) (ks : List Kind) (same : ns ≡ ms) where
  pub applied_among : (e d : Ends) → Says v a (applied_ends ns ks e d) → Says v a (applied_ends ms ks e d)
  applied_among e d said = subst (λ (m : Modules). Says v a (applied_ends m ks e d)) same said

  pub coforall_among : (r s : Role) (e f d g b : Ends) → e ≡ f → d ≡ g → Says v a (coforall_ends ns ks r s e d b) → Says v a (coforall_ends ms ks r s f g b)
  coforall_among r s e f d g b left right said =
      subst (λ (x : Ends). Says v a (coforall_ends ms ks r s f x b)) right (subst (λ (x : Ends). Says v a (coforall_ends ms ks r s x d b)) left (subst (λ (m : Modules). Says v a (coforall_ends m ks r s e d b)) same said))

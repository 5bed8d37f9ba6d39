-- What is written as the interface of a module whose words are of their forms is formed.
use Rattle.std.proofs.Common.{◌≡◌, ℕ, Bool, true, List, [], ◌∷◌, arith, length, refl}
use Rattle.std.specs.List.{list_all}
use Rattle.fc_syntax.specs.Tree.{Decl, DDef, DWrap, Module}
use Rattle.fc_model.specs.Formed.{IsFormed, IsInterfaceFormed, definition_count, is_sig_formed}
use Rattle.fc_model.specs.Headers.{decls_in}
use Rattle.fc_iface.proofs.InterfacesFormed.{interface_is_formed}
use Rattle.fc_product.specs.Interfaces.{interface_written, unknown_sigs}

one_sig : (ds : List Decl) → length (unknown_sigs ds) ≡ definition_count ds
one_sig [] = refl
one_sig (DDef x t e ∷ ds) = omega (arith, one_sig ds)
one_sig (DWrap x t e ∷ ds) = omega (arith, one_sig ds)
one_sig (d ∷ ds) = one_sig ds

no_demands : (ds : List Decl) → list_all is_sig_formed (unknown_sigs ds) ≡ true
no_demands [] = refl
no_demands (DDef x t e ∷ ds) = no_demands ds
no_demands (DWrap x t e ∷ ds) = no_demands ds
no_demands (d ∷ ds) = no_demands ds

pub written_is_formed : (grow : ℕ) (recursive : List Bool) (m : Module) → IsFormed m → IsInterfaceFormed (interface_written grow recursive m)
written_is_formed grow recursive m formed = interface_is_formed grow recursive m (unknown_sigs (decls_in m)) formed (one_sig (decls_in m)) (no_demands (decls_in m))

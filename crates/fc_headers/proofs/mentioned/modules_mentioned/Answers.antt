use Rattle.std.proofs.Common.{arith}
use Rattle.std.proofs.lemmas.List.Concat.{flat_map-cons}
use Rattle.fc_model.specs.NamelessView.{ndecl_of, ndecls_of}
use Rattle.fc_headers.specs.NamelessHeaders.{modules_in_decl, modules_in_decls}
use Rattle.fc_headers.proofs.WordSteps.{item_added}
use Rattle.fc_headers.proofs.mentioned.modules_mentioned.Goals as goal

pub loop-decl-preserved : goal.loop-decl-preserved
loop-decl-preserved c =
    item_added (λ xs. modules_in_decls (ndecls_of xs)) (λ x. modules_in_decl (ndecl_of x))
    (λ x xs. flat_map-cons modules_in_decl (ndecl_of x) (ndecls_of xs))
    c.args.decls.now c.loop-decl.decl-index c.decl-item.result _ _ _ c.loop-decl.invariant (omega arith) c.decl-item.is c.in_ok-in_declaration.ensures

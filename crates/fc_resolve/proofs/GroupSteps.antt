-- One member more of a group, one constructor more and one declaration more.
use Rattle.std.proofs.Common.{◌≡◌, ℕ, ◌+◌, ◌++◌, List, [], ◌∷◌, not, Ok, sym, ap, ◌∙◌}
use Rattle.fc_syntax.specs.declared.fault.FaultKind.TheVariants.{Duplicate}
use Rattle.fc_syntax.specs.Tree.{Word}
use Rattle.fc_syntax.specs.View.{bind_of, binds_of, join_of, joins_of, con_of, cons_of, decl_of, decls_of}
use Rattle.fc_syntax.specs.declared.ty.Name.{Name}
use Rattle.fc_syntax.specs.declared.ty.Ref.{Ref}
use Rattle.fc_syntax.specs.declared.expr.Bind as RustBind
use Rattle.fc_syntax.specs.declared.expr.JoinBind as RustJoin
use Rattle.fc_syntax.specs.declared.module.ConDecl as RustCon
use Rattle.fc_syntax.specs.declared.module.Decl as RustDecl
use Rattle.fc_model.specs.Declaring.{decl_word}
use Rattle.fc_model.specs.Faulting.{need, under, and_then, within}
use Rattle.fc_model.specs.NamelessView.{nbind_of, njoin_of, ncon_of, ndecl_of}
use Rattle.fc_model.specs.Resolution.{Top, Locals, WordSet, plus, then_bind, then_join, resolved_bind, resolved_binds, resolved_join, resolved_joins, resolved_con, resolved_cons, Words, behind, resolved_decl, resolved_decls}
use Rattle.fc_model.specs.Says.{Refuses, fault_of}
use Rattle.fc_model.specs.declared.flaw.Flawed.{Flawed}
use Rattle.fc_model.specs.declared.flaw.Flawed.TheVariants.{Memory, Flaw as OfFlaw}
use Rattle.fc_resolve_parts.specs.Building.{with_items}
use Rattle.fc_resolve_parts.proofs.ListSteps.{item_more}
use Rattle.fc_resolve.specs.Building.{with_binds, with_joins}
use Rattle.fc_resolve.proofs.Building.{with_binds_err, with_binds_more, with_joins_err, with_joins_more}

pub bind_more : (top : Top) (s : Locals) (earlier earlier' : WordSet) (out out' : List (RustBind.Bind ℕ Ref)) (at at' : ℕ) (b : RustBind.Bind Word Name) (rest : List (RustBind.Bind Word Name)) (next : RustBind.Bind ℕ Ref)
    → under at (need (not (earlier b.name)) Duplicate (resolved_bind top s (bind_of b))) ≡ Ok (nbind_of next)
    → earlier' ≡ plus b.name earlier → out' ≡ out ++ next ∷ [] → at' ≡ at + 1
    → with_binds out (resolved_binds top s earlier at (binds_of (b ∷ rest))) ≡ with_binds out' (resolved_binds top s earlier' at' (binds_of rest))
bind_more top s earlier earlier' out out' at at' b rest next resolved words items part =
    ap (λ r. with_binds out (and_then r (λ c. then_bind c (resolved_binds top s (plus b.name earlier) (at + 1) (binds_of rest))))) resolved
    ∙ with_binds_more out next (resolved_binds top s (plus b.name earlier) (at + 1) (binds_of rest))
    ∙ (λ i. with_binds (sym items i) (resolved_binds top s (sym words i) (sym part i) (binds_of rest)))

pub join_more : (top : Top) (s : Locals) (earlier earlier' : WordSet) (out out' : List (RustJoin.JoinBind ℕ Ref)) (at at' : ℕ) (b : RustJoin.JoinBind Word Name) (rest : List (RustJoin.JoinBind Word Name)) (next : RustJoin.JoinBind ℕ Ref)
    → under at (need (not (earlier b.name)) Duplicate (resolved_join top s (join_of b))) ≡ Ok (njoin_of next)
    → earlier' ≡ plus b.name earlier → out' ≡ out ++ next ∷ [] → at' ≡ at + 1
    → with_joins out (resolved_joins top s earlier at (joins_of (b ∷ rest))) ≡ with_joins out' (resolved_joins top s earlier' at' (joins_of rest))
join_more top s earlier earlier' out out' at at' b rest next resolved words items part =
    ap (λ r. with_joins out (and_then r (λ c. then_join c (resolved_joins top s (plus b.name earlier) (at + 1) (joins_of rest))))) resolved
    ∙ with_joins_more out next (resolved_joins top s (plus b.name earlier) (at + 1) (joins_of rest))
    ∙ (λ i. with_joins (sym items i) (resolved_joins top s (sym words i) (sym part i) (joins_of rest)))

pub constructor_more : (top : Top) (s : Locals) (earlier earlier' : WordSet) (out out' : List (RustCon.ConDecl ℕ)) (at at' : ℕ) (con : RustCon.ConDecl Word) (rest : List (RustCon.ConDecl Word)) (next : RustCon.ConDecl ℕ)
    → under at (need (not (earlier con.name)) Duplicate (resolved_con top s (con_of con))) ≡ Ok (ncon_of next)
    → earlier' ≡ plus con.name earlier → out' ≡ out ++ next ∷ [] → at' ≡ at + 1
    → with_items ncon_of out (resolved_cons top s earlier at (cons_of (con ∷ rest))) ≡ with_items ncon_of out' (resolved_cons top s earlier' at' (cons_of rest))
constructor_more top s earlier earlier' out out' at at' con rest next resolved words items part =
    item_more ncon_of out out' next (under at (need (not (earlier con.name)) Duplicate (resolved_con top s (con_of con)))) (resolved_cons top s (plus con.name earlier) (at + 1) (cons_of rest))
    (resolved_cons top s earlier' at' (cons_of rest)) resolved items (λ i. resolved_cons top s (words i) (part i) (cons_of rest))

pub declaration_more : (top : Top) (ws ws' : Words) (out out' : List (RustDecl.Decl ℕ Ref)) (d : RustDecl.Decl Word Name) (rest : List (RustDecl.Decl Word Name)) (next : RustDecl.Decl ℕ Ref)
    → within (decl_word (decl_of d)) (resolved_decl top ws (decl_of d)) ≡ Ok (ndecl_of next) → ws' ≡ behind (decl_of d) ws → out' ≡ out ++ next ∷ []
    → with_items ndecl_of out (resolved_decls top ws (decls_of (d ∷ rest))) ≡ with_items ndecl_of out' (resolved_decls top ws' (decls_of rest))
declaration_more top ws ws' out out' d rest next resolved words items =
    item_more ndecl_of out out' next (within (decl_word (decl_of d)) (resolved_decl top ws (decl_of d))) (resolved_decls top (behind (decl_of d) ws) (decls_of rest))
    (resolved_decls top ws' (decls_of rest)) resolved items (ap (λ w. resolved_decls top w (decls_of rest)) words)

pub bind_refused : (top : Top) (s : Locals) (earlier : WordSet) (out : List (RustBind.Bind ℕ Ref)) (at : ℕ) (b : RustBind.Bind Word Name) (rest : List (RustBind.Bind Word Name)) (g : Flawed)
    → Refuses g (under at (need (not (earlier b.name)) Duplicate (resolved_bind top s (bind_of b)))) → Refuses g (with_binds out (resolved_binds top s earlier at (binds_of (b ∷ rest))))
bind_refused top s earlier out at b rest Memory refused = tt
bind_refused top s earlier out at b rest (OfFlaw f) refused =
    ap (λ r. with_binds out (and_then r (λ c. then_bind c (resolved_binds top s (plus b.name earlier) (at + 1) (binds_of rest))))) refused ∙ with_binds_err out (fault_of f)

pub join_refused : (top : Top) (s : Locals) (earlier : WordSet) (out : List (RustJoin.JoinBind ℕ Ref)) (at : ℕ) (b : RustJoin.JoinBind Word Name) (rest : List (RustJoin.JoinBind Word Name)) (g : Flawed)
    → Refuses g (under at (need (not (earlier b.name)) Duplicate (resolved_join top s (join_of b)))) → Refuses g (with_joins out (resolved_joins top s earlier at (joins_of (b ∷ rest))))
join_refused top s earlier out at b rest Memory refused = tt
join_refused top s earlier out at b rest (OfFlaw f) refused =
    ap (λ r. with_joins out (and_then r (λ c. then_join c (resolved_joins top s (plus b.name earlier) (at + 1) (joins_of rest))))) refused ∙ with_joins_err out (fault_of f)

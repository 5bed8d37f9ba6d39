-- What stands in front of other pieces, behind one space: demands.
use Rattle.std.proofs.Common.{◌≡◌, [], ◌∷◌, ◌++◌, Bool, true, refl, sym, ap, ◌∙◌, append_assoc}
use Rattle.std.proofs.lemmas.List.{append-nil}
use Rattle.fc_model.specs.Pieces.{Pieces, NoPieces, first_text, spaced_text}
use Rattle.fc_lattice.proofs.View.{demand_rules as view_rules}
use Rattle.fc_syntax.specs.Demands.{Demand, Bottom, Demands, NoDemands, MoreDemands}
use Rattle.fc_syntax.specs.Tree.{Decl, DDef, DWrap}
use Rattle.fc_printer.proofs.Spaced.{next_type}
use Rattle.fc_model.specs.InterfaceTexts.{demand_pieces, demands_pieces, unfolding_pieces}

-- each demand is one piece
pub next_demand : (d : Demand) (more : Pieces) → spaced_text (demand_pieces d more) ≡ 32 ∷ (first_text (demand_pieces d NoPieces) ++ spaced_text more)
next_demand Bottom more = refl
next_demand d more = refl

-- demands, and what follows them
pub next_demands : (ds : Demands) (more : Pieces) → spaced_text (demands_pieces ds more) ≡ spaced_text (demands_pieces ds NoPieces) ++ spaced_text more
next_demands NoDemands more = refl
next_demands (MoreDemands d ds) more =
    next_demand d (demands_pieces ds more)
    ∙ ap (λ x. 32 ∷ (first_text (demand_pieces d NoPieces) ++ x)) (next_demands ds more)
    ∙ ap (λ x. 32 ∷ x) (sym (append_assoc (first_text (demand_pieces d NoPieces)) (spaced_text (demands_pieces ds NoPieces)) (spaced_text more)))
    ∙ ap (λ x. x ++ spaced_text more) (sym (next_demand d (demands_pieces ds NoPieces)))

-- an unfolding is one piece
pub alone_unfolding : (told : Bool) (d : Decl) → spaced_text (unfolding_pieces told d NoPieces) ≡ 32 ∷ (first_text (unfolding_pieces told d NoPieces) ++ [])
alone_unfolding true (DDef x t e) = refl
alone_unfolding true (DWrap x t e) = refl
alone_unfolding told d = refl

pub ruleset told_rules = (append_assoc, append-nil, alone_unfolding)

pub ruleset value_rules = (append_assoc, append-nil, next_type)

pub ruleset demand_rules = (view_rules, append_assoc, append-nil, next_demand)

pub ruleset sig_rules = (append_assoc, append-nil, next_demands)

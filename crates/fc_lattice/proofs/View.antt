-- The view of a demand by its equation of one level, and the step of a loop that copies demands.
use Rattle.std.proofs.Common.{◌≡◌, ◌++◌, ◌∙◌, ◌+◌, ◌<◌, ℕ, List, [], ◌∷◌, refl, sym, ap, take, length, get_or}
use Rattle.std.proofs.lemmas.List.{take_more}
use denote.Hole.Carrier as Carrier
use Rattle.fc_syntax.specs.Demands.{Demand, Product, Demands, NoDemands, MoreDemands}
use Rattle.fc_lattice.specs.View.{demand_of, demand_layer, demands_row, demands_of}
use Rattle.fc_lattice.specs.declared.demand.Demand as D
use Rattle.fc_lattice.specs.declared.demand.Demand.{out-Demand, Row_of-Demand, end_of-Demand, more_of-Demand, items-the_row-Demand}
use Rattle.fc_lattice.specs.declared.demand.Demand.TheBlock as demands

demands_items : (n : _) (row : Row_of-Demand n) → demands_row row ≡ demands_of (items-the_row-Demand n row)
unfolding demands_row
demands_items n end_of-Demand = refl
demands_items n (more_of-Demand d rest) = ap (λ ds. MoreDemands (demand_of d) ds) (demands_items _ rest)

pub demand_out : (d : D.Demand) → demand_of d ≡ demand_layer (out-Demand d)
unfolding demand_of out-Demand Carrier.out Carrier.shown
demand_out D.B = refl
demand_out D.A = refl
demand_out (D.P' k s fields) = ap (λ x. Product k x) (demands_items _ fields ∙ sym (ap demands_of (demands.items_shown-the_row-Demand-0 s fields)))
demand_out D.S = refl
demand_out D.L = refl

pub ruleset demand_rules = (D.the_lemmas, demand_out)

-- one demand more at the end
pub demands_snoc : Demands → Demand → Demands
demands_snoc NoDemands x = MoreDemands x NoDemands
demands_snoc (MoreDemands y rest) x = MoreDemands y (demands_snoc rest x)

pub demands_more : (items : List D.Demand) (x : D.Demand) → demands_of (items ++ x ∷ []) ≡ demands_snoc (demands_of items) (demand_of x)
unfolding demands_snoc
demands_more [] x = refl
demands_more (y ∷ items) x = ap (λ rest. MoreDemands (demand_of y) rest) (demands_more items x)

-- a copy of the next demand goes to the end
pub demands_step : (items all more : List D.Demand) (i : ℕ) (x y : D.Demand) → more ≡ all ++ y ∷ [] → demand_of y ≡ demand_of x → i < length items
    → x ≡ get_or items i x → demands_of all ≡ demands_of (take i items) → demands_of more ≡ demands_of (take (i + 1) items)
demands_step items all more i x y pushed same within is so_far =
    ap demands_of pushed ∙ demands_more all y ∙ (λ j. demands_snoc (so_far j) (same j)) ∙ sym (demands_more (take i items) x)
    ∙ ap (λ z. demands_of (take i items ++ z ∷ [])) is ∙ sym (ap demands_of (take_more items i x within))

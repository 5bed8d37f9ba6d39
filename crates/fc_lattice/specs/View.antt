-- What demands, signatures and interfaces of src mean.
use Rattle.std.specs.Prelude.{List, [], ◌∷◌, map}
use Rattle.fc_syntax.specs.View.{module_of}
use Rattle.fc_syntax.specs.Demands.{Demand, Bottom, Absent, Product, Strict, Lazy, Demands, NoDemands, MoreDemands, Sig, SigOf}
use Rattle.fc_model.specs.Grammar.{Interface, InterfaceOf}
use Rattle.fc_lattice.specs.declared.demand.Demand as D
use Rattle.fc_lattice.specs.declared.demand.Demand.{Demand-F, Row_of-Demand, end_of-Demand, more_of-Demand}
use Rattle.fc_lattice.specs.declared.demand.Sig as RustSig
use Rattle.fc_lattice.specs.declared.interface.Interface as RustInterface

unfoldable mutual
  pub demand_of : D.Demand → Demand
  demand_of D.B = Bottom
  demand_of D.A = Absent
  demand_of (D.P' k _ fields) = Product k (demands_row fields)
  demand_of D.S = Strict
  demand_of D.L = Lazy

  pub demands_row : {n : _} → Row_of-Demand n → Demands
  demands_row end_of-Demand = NoDemands
  demands_row (more_of-Demand d rest) = MoreDemands (demand_of d) (demands_row rest)

abbrev pub demands_of : List D.Demand → Demands
demands_of [] = NoDemands
demands_of (d ∷ ds) = MoreDemands (demand_of d) (demands_of ds)

abbrev pub demand_layer : Demand-F D.Demand → Demand
demand_layer Demand-F.B = Bottom
demand_layer Demand-F.A = Absent
demand_layer (Demand-F.P k fields) = Product k (demands_of fields)
demand_layer Demand-F.S = Strict
demand_layer Demand-F.L = Lazy

abbrev pub sig_of : RustSig.Sig → Sig
sig_of s = SigOf (demands_of s.args) s.diverges

abbrev pub sigs_of : List RustSig.Sig → List Sig
sigs_of ss = map sig_of ss

abbrev pub as_interface : RustInterface.Interface → Interface
as_interface i = InterfaceOf (module_of i.module) (sigs_of i.sigs) i.unfold

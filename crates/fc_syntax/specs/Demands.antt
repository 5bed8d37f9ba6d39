-- Demands and signatures: what the callers of a function know of how it uses its arguments.
use Rattle.std.specs.Prelude.{Bool}
use Rattle.fc_syntax.specs.declared.ty.Name.{Name}

mutual
  -- How a value is used: by what diverges; not at all; by taking it apart as this constructor, and its fields so; by evaluating it; in any way.
  pub data Demand : Type 0 where
    Bottom : Demand
    Absent : Demand
    Product : (k : Name) (fields : Demands) → Demand
    Strict : Demand
    Lazy : Demand

  pub data Demands : Type 0 where
    NoDemands : Demands
    MoreDemands : (d : Demand) (rest : Demands) → Demands

-- the demands on the first arguments of a call, and whether such a call diverges
pub data Sig : Type 0 where
  SigOf : (args : Demands) (diverges : Bool) → Sig

-- A table that grows keeps what was valid in it and what it showed.
use Rattle.std.proofs.Common.{◌≡◌, ◌∙◌, List, ap}
use Rattle.fc_syntax.specs.Tree.{Kind}
use Rattle.fc_syntax.specs.declared.ty.Role.{Role}
use Rattle.fc_model.specs.Nameless.{NTy, NTCoForall, NBinder}
use Rattle.fc_type_table.specs.TypeTables.{Grows, IsType, nodes_of, shown}
use Rattle.fc_type_table.specs.declared.node.TypeId.{TypeId}
use Rattle.fc_type_table.specs.declared.table.TypeTable.{TypeTable}
use Rattle.fc_type_table.proofs.Numbers.{Grows-further, Grows-refl, IsTypeAt-grows, shown_at-grows}
use Rattle.fc_type_scope.specs.Behind.{IsEntered}
use Rattle.fc_type_scope.specs.Scopes.{AreTypes, shown_all}
use Rattle.fc_type_scope.specs.declared.entering.Entered as code
use Rattle.fc_type_scope.proofs.Numbers.{AreTypesAt-grows, shown_all-grows}
use Rattle.fc_type_scope.proofs.OneMore.{entered_grows}

pub IsType-grows : (old new : TypeTable) (ks : List Kind) (id : TypeId) → Grows old new → IsType old ks id → IsType new ks id
IsType-grows old new ks id g t = IsTypeAt-grows (nodes_of old) (nodes_of new) ks id.0 g.nodes t

pub shown-grows : (old new : TypeTable) (ks : List Kind) (id : TypeId) → Grows old new → IsType old ks id → shown new ks id ≡ shown old ks id
shown-grows old new ks id g t = shown_at-grows (nodes_of old) (nodes_of new) ks id.0 g.nodes t

pub AreTypes-grows : (old new : TypeTable) (ks : List Kind) (ids : List TypeId) → Grows old new → AreTypes old ks ids → AreTypes new ks ids
AreTypes-grows old new ks ids g ts = AreTypesAt-grows (nodes_of old) (nodes_of new) ks ids g.nodes ts

pub shown_all-grown : (old new : TypeTable) (ks : List Kind) (ids : List TypeId) → Grows old new → AreTypes old ks ids → shown_all new ks ids ≡ shown_all old ks ids
shown_all-grown old new ks ids g ts = shown_all-grows (nodes_of old) (nodes_of new) ks ids g.nodes ts

pub IsEntered-grows : (old new : TypeTable) (ks : List Kind) (bs : List NBinder) (e : code.Entered) → Grows old new → IsEntered (nodes_of old) ks bs e → IsEntered (nodes_of new) ks bs e
IsEntered-grows old new ks bs e g en = entered_grows (nodes_of old) (nodes_of new) ks bs e g.nodes en

-- the ends of a coercion, read one after the other, and what stands behind it
pub coercion_over : (a b c : TypeTable) (ks : List Kind) (left right answer : TypeId) (t u : NTy) (r : Role) → Grows a b → Grows b c → IsType a ks answer → IsType b ks left
    → shown b ks left ≡ t → shown c ks right ≡ u → NTCoForall r (shown c ks left) (shown c ks right) (shown c ks answer) ≡ NTCoForall r t u (shown a ks answer)
coercion_over a b c ks left right answer t u r g h v l s e =
    let left_is : shown c ks left ≡ t = shown-grows b c ks left h l ∙ s in
    let answer_is : shown c ks answer ≡ shown a ks answer = shown-grows a c ks answer (Grows-further a b c g h) v in
    ap (λ x. NTCoForall r x (shown c ks right) (shown c ks answer)) left_is ∙ ap (λ x. NTCoForall r t x (shown c ks answer)) e ∙ ap (λ x. NTCoForall r t u x) answer_is

-- what a caller needs whose table grows
pub ruleset scope_rules = (Grows-refl, Grows-further, IsType-grows, shown-grows, AreTypes-grows, shown_all-grown, IsEntered-grows)

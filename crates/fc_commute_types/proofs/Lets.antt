-- Lets of equal parts.
use Rattle.std.proofs.Common.{◌≡◌}
use Rattle.fc_model.specs.Nameless.{NTy, NExpr}
use Rattle.fc_rows.specs.Shrinking.{let_of}

pub same_let : {t u : NTy} {a b x y : NExpr} → t ≡ u → a ≡ b → x ≡ y → let_of t a x ≡ let_of u b y
same_let h k l = λ j. let_of (h j) (k j) (l j)

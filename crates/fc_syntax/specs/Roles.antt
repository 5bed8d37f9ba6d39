-- The order of roles: N, R, P.
use Rattle.std.specs.Prelude.{Bool, true, false}
use Rattle.fc_syntax.specs.declared.ty.Role.{Role}
use Rattle.fc_syntax.specs.declared.ty.Role.TheVariants.{N, R, P}

-- the first role is the second or stands before it
abbrev pub role_below : Role → Role → Bool
role_below N other = true
role_below R N = false
role_below R R = true
role_below R P = true
role_below P N = false
role_below P R = false
role_below P P = true

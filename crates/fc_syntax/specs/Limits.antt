-- The limits of the program.
use Rattle.fc_syntax.specs.declared.limits.Limits.{Limits}

-- 256 modules; 4 MiB a file and 16 MiB a set; depth 500 and 2,000 nested brackets; size 400,000 read and 1,500,000 made;
-- 16 fields, parameters and existential types
abbrev pub standard_limits : Limits
standard_limits = record {
  modules = 256;
  file_bytes = 4194304;
  set_bytes = 16777216;
  depth = 500;
  brackets = 2000;
  size = 400000;
  fields = 16;
  result_size = 1500000;
}

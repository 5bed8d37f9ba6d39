-- The number and the word of each fault.
use Rattle.std.specs.Prelude.{ℕ, List, codes}
use Rattle.fc_syntax.specs.declared.fault.FaultKind.{FaultKind}
use Rattle.fc_syntax.specs.declared.fault.FaultKind.TheVariants as kind

-- faults of bytes and forms are below 10, of files and sets below 20, of names below 30, of types below 40, of coercions
-- below 50, of terms below 70
abbrev pub fault_number : FaultKind → ℕ
fault_number kind.BadByte = 1
fault_number kind.BadToken = 2
fault_number kind.BadForm = 3
fault_number kind.TooDeep = 4
fault_number kind.TooLong = 5
fault_number kind.TooMany = 6
fault_number kind.LiteralRange = 7
fault_number kind.Missing = 10
fault_number kind.DuplicateModule = 11
fault_number kind.ImportUnknown = 12
fault_number kind.ImportCycle = 13
fault_number kind.TooManyModules = 14
fault_number kind.Unbound = 20
fault_number kind.Duplicate = 21
fault_number kind.NotExported = 22
fault_number kind.ExportUnknown = 23
fault_number kind.KindMismatch = 30
fault_number kind.NotAType = 31
fault_number kind.FamilyArity = 32
fault_number kind.UnliftedVariable = 33
fault_number kind.RoleTooWeak = 34
fault_number kind.EndsDiffer = 40
fault_number kind.RoleWrong = 41
fault_number kind.NotInjective = 42
fault_number kind.NthRange = 43
fault_number kind.AxiomArity = 44
fault_number kind.KindsDiffer = 45
fault_number kind.ArgType = 50
fault_number kind.NotFunction = 51
fault_number kind.NotForall = 52
fault_number kind.UnliftedNotAtom = 53
fault_number kind.CastFrom = 54
fault_number kind.AltType = 55
fault_number kind.AltOrder = 56
fault_number kind.AltConstructor = 57
fault_number kind.ConArity = 58
fault_number kind.ScrutineeType = 59
fault_number kind.JumpNotTail = 60
fault_number kind.JumpArity = 61
fault_number kind.EscapingType = 62
fault_number kind.DefType = 63
fault_number kind.LetType = 64
fault_number kind.PrimArity = 65
fault_number kind.LitAlt = 66
fault_number kind.UnliftedTop = 67

-- the word of a fault is the name of its variant
abbrev pub fault_word : FaultKind → List ℕ
fault_word kind.BadByte = codes "BadByte"
fault_word kind.BadToken = codes "BadToken"
fault_word kind.BadForm = codes "BadForm"
fault_word kind.TooDeep = codes "TooDeep"
fault_word kind.TooLong = codes "TooLong"
fault_word kind.TooMany = codes "TooMany"
fault_word kind.LiteralRange = codes "LiteralRange"
fault_word kind.Missing = codes "Missing"
fault_word kind.DuplicateModule = codes "DuplicateModule"
fault_word kind.ImportUnknown = codes "ImportUnknown"
fault_word kind.ImportCycle = codes "ImportCycle"
fault_word kind.TooManyModules = codes "TooManyModules"
fault_word kind.Unbound = codes "Unbound"
fault_word kind.Duplicate = codes "Duplicate"
fault_word kind.NotExported = codes "NotExported"
fault_word kind.ExportUnknown = codes "ExportUnknown"
fault_word kind.KindMismatch = codes "KindMismatch"
fault_word kind.NotAType = codes "NotAType"
fault_word kind.FamilyArity = codes "FamilyArity"
fault_word kind.UnliftedVariable = codes "UnliftedVariable"
fault_word kind.RoleTooWeak = codes "RoleTooWeak"
fault_word kind.EndsDiffer = codes "EndsDiffer"
fault_word kind.RoleWrong = codes "RoleWrong"
fault_word kind.NotInjective = codes "NotInjective"
fault_word kind.NthRange = codes "NthRange"
fault_word kind.AxiomArity = codes "AxiomArity"
fault_word kind.KindsDiffer = codes "KindsDiffer"
fault_word kind.ArgType = codes "ArgType"
fault_word kind.NotFunction = codes "NotFunction"
fault_word kind.NotForall = codes "NotForall"
fault_word kind.UnliftedNotAtom = codes "UnliftedNotAtom"
fault_word kind.CastFrom = codes "CastFrom"
fault_word kind.AltType = codes "AltType"
fault_word kind.AltOrder = codes "AltOrder"
fault_word kind.AltConstructor = codes "AltConstructor"
fault_word kind.ConArity = codes "ConArity"
fault_word kind.ScrutineeType = codes "ScrutineeType"
fault_word kind.JumpNotTail = codes "JumpNotTail"
fault_word kind.JumpArity = codes "JumpArity"
fault_word kind.EscapingType = codes "EscapingType"
fault_word kind.DefType = codes "DefType"
fault_word kind.LetType = codes "LetType"
fault_word kind.PrimArity = codes "PrimArity"
fault_word kind.LitAlt = codes "LitAlt"
fault_word kind.UnliftedTop = codes "UnliftedTop"

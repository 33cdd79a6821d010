-- Why no state was recovered of records.
use Rattle.std.specs.Prelude.{⊤, ℕ, []}
use Rattle.skk_journal.specs.Contents.{Contents}
use Rattle.skk_journal.specs.declared.fault.OpenFault.{OpenFault}
use Rattle.skk_journal.specs.declared.fault.OpenFault.TheVariants as opening
use Rattle.learned_store.specs.declared.recovery.RecoverFault.{RecoverFault}
use Rattle.learned_store.specs.declared.recovery.RecoverFault.TheVariants.{Memory, Break}
use Rattle.learned_store.specs.Recovered.{BreakAt}

-- where it is said that the records of a file say nothing from a place on, the first of them that does so stands there
abbrev pub IsBreak : Contents → RecoverFault → Type 0
IsBreak contents (Break at) = BreakAt contents at
IsBreak contents Memory = ⊤

-- how the file of a number and a version is refused of whose records no state was recovered: no records are told
abbrev pub refusal_of : ℕ → ℕ → RecoverFault → OpenFault
refusal_of file version (Break at) = opening.BadRecord file at version []
refusal_of file version Memory = opening.Memory

-- What the reading of a script keeps of the lines that it has passed.
use Rattle.std.specs.Prelude.{◌≤◌, ◌↔◌, ℕ, Bool, false, IsTrue, List, map, slice_index_or, Contains}
use Rattle.key_scripts.specs.Script.{session_of}
use Rattle.key_scripts.specs.declared.line.Line.{Line}

-- the marks tell which sessions these lines name
abbrev pub Mark : List Bool → List Line → Type 0
Mark marks lines =
    (session : ℕ) → session ≤ 64 → IsTrue (slice_index_or marks session false) ↔ Contains (map session_of lines) session

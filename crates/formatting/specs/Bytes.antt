-- Texts of the papers as bytes.
use Rattle.std.specs.Prelude.{List, [], ◌∷◌, ℕ}
use Prim.Native.Char.{code}
use Prim.Native.String.{String, [] as none, ◌∷◌ as ◌then◌}

-- Document 01: the bytes of an ASCII text that it names
abbrev pub bytes : String → List ℕ
bytes none = []
bytes (c then s) = code c ∷ bytes s

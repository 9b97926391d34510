-- What the struct Expected of src/lib.rt stands for: the ranges of RFC 3629 section 4 that have to follow in a text.
use Rattle.std.specs.Prelude.{List, [], ◌∷◌, ℕ, zero, suc, replicate}
use Rattle.utf8.specs.Utf8.{Octets, tail}
use Rattle.utf8.specs.declared.Expected.{Expected}

-- RFC 3629 section 4: n octets, the first from l to h and the others UTF8-tail
abbrev pub ranges_of : ℕ → ℕ → ℕ → List Octets
ranges_of zero l h = []
ranges_of (suc n) l h = record { low = l; high = h } ∷ replicate n tail

-- RFC 3629 section 4: the ranges that the three numbers of an Expected stand for
abbrev pub ranges : Expected → List Octets
ranges e = ranges_of e.0 e.1 e.2

-- How a text is shown that may hold anything: so that no terminal and no line of a log takes it for something else.
use Rattle.std.specs.Prelude.{ℕ, ◌+◌, ◌/◌, ◌%◌, List, [], ◌∷◌, ◌++◌, Bool, ◌&&◌, codes, length, take, ◌==◌, nat_le, nat_lt, if◌then◌else◌}
use Rattle.std.specs.Fmt.{decimal}

-- a hexadecimal digit
abbrev pub hex_digit : ℕ → ℕ
hex_digit n = if nat_lt n 10 then 48 + n else 87 + n

-- a blank, or what prints as itself in ASCII
abbrev pub is_plain : ℕ → Bool
is_plain byte = nat_le 32 byte && nat_le byte 126

-- a byte that prints as it is, but for `\`, which is `\\`; each other as `\x1b`
abbrev pub shown_byte : ℕ → List ℕ
shown_byte byte =
    if byte == 92 then 92 ∷ 92 ∷ []
    else (if is_plain byte then byte ∷ [] else 92 ∷ 120 ∷ hex_digit (byte / 16) ∷ hex_digit (byte % 16) ∷ [])

abbrev pub shown_bytes : List ℕ → List ℕ
shown_bytes [] = []
shown_bytes (b ∷ bs) = shown_byte b ++ shown_bytes bs

-- what follows a text that is cut: how many bytes it has
abbrev pub cut_words : ℕ → List ℕ → List ℕ
cut_words most text = if nat_lt most (length text) then codes ".. (" ++ decimal (length text) ++ codes " bytes)" else []

-- a text, or its first bytes and how many it has
abbrev pub shown : ℕ → List ℕ → List ℕ
shown most text = shown_bytes (take most text) ++ cut_words most text

-- How a program may name itself (RFC 9110, sections 5.5 and 10.1.5).
use Rattle.std.specs.Prelude.{◌≡◌, ℕ, ◌≤◌, ◌<◌, ◌⊎◌, List, length, All}
use Rattle.std.specs.Int.{IsInRange}
use Rattle.memento_time.specs.Blanks.{trim_blanks}

-- the most bytes of a name
abbrev pub max_agent : ℕ
max_agent = 256

-- a visible byte of ASCII, a space or a tab
abbrev pub IsAgentByte : ℕ → Type 0
IsAgentByte byte = IsInRange 32 126 byte ⊎ (byte ≡ 9)

-- one to 256 visible bytes and blanks, with no blank at the ends
pub record IsAgent (text : List ℕ) : Type 0 where
  pub some : 0 < length text
  pub few : length text ≤ max_agent
  pub bytes : All IsAgentByte text
  pub ends : trim_blanks text ≡ text

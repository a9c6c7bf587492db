-- What stands on a page after lines were written into it, and where the next line begins.
use Rattle.std.specs.Prelude.{◌≡◌, ℕ, ◌+◌, ◌≤◌, Bool, true, false, List, ◌++◌, length, take, drop, Some, None, Option, nat_le}
use Rattle.keys.specs.Bytes.{put_buffer}

-- are so many bytes of the page free from the offset on?
abbrev pub free : (most : ℕ) (page : List ℕ) (at : ℕ) → Bool
free most page at = nat_le (at + most) (length page)

-- The answer of a call that asks for `most` bytes: the offset after its lines, or none.
abbrev pub next_if : Bool → (lines : List ℕ) (at : ℕ) → Option ℕ
next_if true lines at = Some (at + length lines)
next_if false lines at = None

abbrev pub next_after : (most : ℕ) (lines page : List ℕ) (at : ℕ) → Option ℕ
next_after most lines page at = next_if (free most page at) lines at

-- The page afterwards: its lines at the offset, or the page as it was.
abbrev pub page_if : Bool → (lines page : List ℕ) (at : ℕ) → List ℕ
page_if true lines page at = put_buffer lines page at
page_if false lines page at = page

abbrev pub page_with : (most : ℕ) (lines page : List ℕ) (at : ℕ) → List ℕ
page_with most lines page at = page_if (free most page at) lines page at

-- the page with the bytes at an offset where they fit
abbrev pub written_at : (bytes page : List ℕ) (at : ℕ) → List ℕ
written_at bytes page at = take at page ++ (bytes ++ drop (at + length bytes) page)

-- A part of a line was put at an offset where it fits: the page after it, and the offset after it.
pub record Wrote (bytes page : List ℕ) (at : ℕ) (after : List ℕ) (next : ℕ) : Type 0 where
  pub stands : after ≡ written_at bytes page at
  pub ends : next ≡ at + length bytes
  pub within : next ≤ length page

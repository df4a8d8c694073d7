-- Places go up.
use Rattle.std.proofs.Common.{◌≡◌, ℕ, ◌+◌, ◌*◌, ◌/◌, ◌<◌, ◌≤◌, arith}
use Rattle.wal_pages.specs.Header.{page_of}
use Rattle.wal_records.specs.Place.{place_at}

pub place_at_up : (size at : ℕ) → at ≤ place_at size at
place_at_up size at = grind arith

pub next_page : (place : ℕ) → (place / 8192 + 1) * 8192 ≡ page_of place + 8192
next_page place = omega arith

pub page_up : (place : ℕ) → place < page_of place + 8192
page_up place = omega arith

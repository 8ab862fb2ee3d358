-- Queries in their places, who watches them, and their logs.
use Rattle.std.specs.Prelude.{ℕ, List, [], ◌∷◌, ◌==◌, ◌≡◌, nat_lt, Bool, true, false, Option, None}
use Rattle.std.specs.Prelude.{Some, slice_index_or, ⊤}
use Rattle.std.specs.List.{list_any}
use Rattle.djq_model.specs.Data.{Bytes}
use Rattle.djq_store_spec.specs.Stale.{reads}
use Rattle.djq_enumeration.specs.Log.{Log}
use Rattle.djq_live_query.specs.Live.{Live}

-- the query in a place, if one is registered there
abbrev pub place_at : List (Option Live) → ℕ → Option Live
place_at gs i = slice_index_or gs i None

-- whether the query in a place reads a relation
abbrev pub reads_place : Bytes → Option Live → Bool
reads_place relation None = false
reads_place relation (Some l) = reads l.query relation

-- whether a place is among these
abbrev pub is_reader : List ℕ → ℕ → Bool
is_reader readers i = list_any (λ j. j == i) readers

-- the places of the queries that read the relation at a place
abbrev pub readers_at : List (List ℕ) → ℕ → List ℕ
readers_at readers r = slice_index_or readers r []

-- how many sessions watch the query in a place
abbrev pub watchers_at : List ℕ → ℕ → ℕ
watchers_at watchers i = slice_index_or watchers i 0

-- whether one does
abbrev pub watched_at : List ℕ → ℕ → Bool
watched_at watchers i = nat_lt 0 (watchers_at watchers i)

-- a log in place of that of no place
abbrev pub no_log : Log
no_log = record { lines = []; lost = true }

-- the log in a place
abbrev pub log_at : List Log → ℕ → Log
log_at logs i = slice_index_or logs i no_log

-- no two are the same
abbrev pub AreOnce : List ℕ → Type 0
AreOnce [] = ⊤
AreOnce (i ∷ more) = (is_reader more i ≡ false) × AreOnce more

-- Edges in lexical order, each once.
use Rattle.std.specs.Prelude.{
  ℕ,
  List,
  [],
  ◌∷◌,
  ◌≡◌,
  ◌≤◌,
  ◌<◌,
  true,
  false,
  if◌then◌else◌,
  length,
  slice_index_or,
}
use Rattle.std.specs.List.{fold}
use Rattle.djq_protocol.specs.Rest.{is_before}

-- with an edge more, if it isn't among them
unfoldable pub with_edge : List ℕ → List (List ℕ) → List (List ℕ)
with_edge e [] = e ∷ []
with_edge e (f ∷ fs) =
    if is_before f e then f ∷ with_edge e fs else (if is_before e f then e ∷ f ∷ fs else f ∷ fs)

-- edges, put in one after another
abbrev pub in_order : List (List ℕ) → List (List ℕ)
in_order edges = fold (λ sorted e. with_edge e sorted) [] edges

-- the edges before a place precede this one, and the edge there, if there is one, doesn't
pub record IsPlaceFor (edges : List (List ℕ)) (e : List ℕ) (at : ℕ) : Type 0 where
  pub within : at ≤ length edges
  pub before : (k : ℕ) → k < at → is_before (slice_index_or edges k []) e ≡ true
  pub there : at < length edges → is_before (slice_index_or edges at []) e ≡ false

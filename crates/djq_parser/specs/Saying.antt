-- The tokens of a command: the grammar as a relation, stated without reading.
use Rattle.std.specs.Prelude.{◌≡◌, ℕ, ℤ, pos, ◌-◌, ◌+◌, ◌*◌, ◌^◌, ◌<◌, ◌≤◌, ◌⊎◌, neg_ℤ, List, [], ◌∷◌, ◌++◌, true, codes, length, min, None, Some}
use Rattle.std.specs.List.{AllZip, list_all}
use Rattle.djq_model.specs.Data.{Bytes, Tuple}
use Rattle.djq_model.specs.declared.value.Value.{Value}
use Rattle.djq_model.specs.declared.value.Value.TheVariants.{Int, Text}
use Rattle.djq_model.specs.declared.relation.ColumnType.{ColumnType}
use Rattle.djq_model.specs.declared.relation.ColumnType.TheVariants.{Int as IntColumn, Text as TextColumn}
use Rattle.djq_model.specs.declared.query.Term.{Term}
use Rattle.djq_model.specs.declared.query.Term.TheVariants.{Variable, Hole, Constant}
use Rattle.djq_model.specs.declared.query.Atom.{Atom}
use Rattle.djq_model.specs.declared.query.Comparison.{Comparison}
use Rattle.djq_model.specs.declared.query.Query.{Query}
use Rattle.djq_protocol.specs.declared.limits.TheConstants.{NEXT_COUNT, LAST_COUNT}
use Rattle.djq_protocol.specs.declared.command.Command.{Command}
use Rattle.djq_protocol.specs.declared.command.Command.TheVariants.{
  Rel,
  Add,
  Del,
  Query as Register,
  Union,
  Drop,
  Open,
  Next,
  Close,
  Has,
  Watch,
  Unwatch,
  Explain,
  Shape,
  Batch,
  Done,
  Abandon,
  Quit,
  Stop,
}
use Rattle.djq_value.specs.Token.{Token, word, text, open_paren, close_paren, comma, arrow, operator}
use Rattle.djq_value.specs.Literal.{is_digit, IsName}
use Rattle.djq_protocol.specs.Grammar.{Item, atom, comparison, past_item}

-- what digits denote in base ten
abbrev pub decimal : Bytes → ℕ
decimal [] = 0
decimal (d ∷ ds) = (d - 48) * 10 ^ length ds + decimal ds

-- digits, one at least, that denote a number
pub record IsNumeral (ds : Bytes) (n : ℕ) : Type 0 where
  pub some : 0 < length ds
  pub digits : list_all is_digit ds ≡ true
  pub value : n ≡ decimal ds

-- digits, or a `-` and digits: the number that the digits denote, or its negative
abbrev pub IsInteger : Bytes → ℤ → Type 0
IsInteger w i = ((n : ℕ) × IsNumeral w n × (i ≡ pos n)) ⊎
    ((ds : Bytes) × (n : ℕ) × (w ≡ codes "-" ++ ds) × IsNumeral ds n × (i ≡ neg_ℤ (pos n)))

-- The token of each item.

-- a name is written as itself, as a word
abbrev pub SaysName : Bytes → Token → Type 0
SaysName n t = IsName n × (t ≡ word n)

-- a column's type is written as the word `int` or `text`
abbrev pub SaysType : ColumnType → Token → Type 0
SaysType IntColumn t = t ≡ word (codes "int")
SaysType TextColumn t = t ≡ word (codes "text")

-- an integer is written as a word that denotes it, a text as a token of its bytes
abbrev pub SaysValue : Value → Token → Type 0
SaysValue (Int i) t = (w : Bytes) × (t ≡ word w) × IsInteger w i
SaysValue (Text s) t = t ≡ text s

-- a variable is written as its name, a hole as `_`, and a constant as a value is
abbrev pub SaysTerm : Term → Token → Type 0
SaysTerm (Variable x) t = SaysName x t
SaysTerm Hole t = t ≡ word (codes "_")
SaysTerm (Constant v) t = SaysValue v t

-- the tokens of a list after its first item, with its `)`
abbrev pub more_tokens : List Token → List Token
more_tokens [] = close_paren ∷ []
more_tokens (u ∷ us) = comma ∷ u ∷ more_tokens us

-- the tokens of a list in parentheses, with commas between its items
abbrev pub list_tokens : List Token → List Token
list_tokens [] = open_paren ∷ close_paren ∷ []
list_tokens (u ∷ us) = open_paren ∷ u ∷ more_tokens us

-- a relation and a list of terms
abbrev pub SaysAtom : Atom → List Token → Type 0
SaysAtom a ts = (us : List Token) × IsName a.relation × AllZip SaysTerm a.terms us
    × (ts ≡ word a.relation ∷ list_tokens us)

-- a variable, a comparison's sign and a constant
abbrev pub SaysComparison : Comparison → List Token → Type 0
SaysComparison c ts =
    (t : Token) × IsName c.variable × SaysValue c.constant t
    × (ts ≡ word c.variable ∷ operator c.operator ∷ t ∷ [])

-- an item after so many atoms: an atom, or a comparison that stores this number
abbrev pub SaysItem : ℕ → Item → List Token → Type 0
SaysItem n (atom a) ts = SaysAtom a ts
SaysItem n (comparison c) ts = SaysComparison c ts × (c.behind ≡ n)

-- items, one at least, with commas between, after so many atoms; an atom counts for what follows it
abbrev pub SaysItems : ℕ → List Item → List Token → Type 0
SaysItems n [] ts = ⊥
SaysItems n (i ∷ []) ts = SaysItem n i ts
SaysItems n (i ∷ j ∷ js) ts =
    (front : List Token) × (back : List Token) × SaysItem n i front
    × SaysItems (past_item n i) (j ∷ js) back × (ts ≡ front ++ comma ∷ back)

-- the atoms among items
abbrev pub atoms_among : List Item → List Atom
atoms_among [] = []
atoms_among (atom a ∷ is) = a ∷ atoms_among is
atoms_among (comparison c ∷ is) = atoms_among is

-- the comparisons among items
abbrev pub comparisons_among : List Item → List Comparison
comparisons_among [] = []
comparisons_among (atom a ∷ is) = comparisons_among is
comparisons_among (comparison c ∷ is) = c ∷ comparisons_among is

-- items, an atom at least, whose atoms and comparisons are the query's
abbrev pub SaysBody : Query → List Token → Type 0
SaysBody q ts =
    (items : List Item) × SaysItems 0 items ts × (q.atoms ≡ atoms_among items)
    × (q.comparisons ≡ comparisons_among items) × (0 < length q.atoms)

-- a name, a list of names, `<-` and a body
abbrev pub SaysQuery : Query → List Token → Type 0
SaysQuery q ts =
    (us : List Token) × (body : List Token) × IsName q.name × AllZip SaysName q.head us
    × SaysBody q body × (ts ≡ word q.name ∷ (list_tokens us ++ arrow ∷ body))

-- a keyword and a name
abbrev pub SaysOne : Bytes → Bytes → List Token → Type 0
SaysOne keyword n ts = IsName n × (ts ≡ word keyword ∷ word n ∷ [])

-- a keyword, a name and a row
abbrev pub SaysRow : Bytes → Bytes → Tuple → List Token → Type 0
SaysRow keyword n vs ts = (us : List Token) × IsName n × AllZip SaysValue vs us × (ts ≡ word keyword ∷ word n ∷ us)

-- the tokens of a command
abbrev pub SaysCommand : Command → List Token → Type 0
SaysCommand (Rel n cs) ts = (us : List Token) × IsName n × (0 < length cs) × AllZip SaysType cs us
    × (ts ≡ word (codes "rel") ∷ word n ∷ us)
SaysCommand (Add n vs) ts = (0 < length vs) × SaysRow (codes "add") n vs ts
SaysCommand (Del n vs) ts = (0 < length vs) × SaysRow (codes "del") n vs ts
SaysCommand (Register q) ts = (us : List Token) × SaysQuery q us × (ts ≡ word (codes "query") ∷ us)
SaysCommand (Union n ms) ts = (us : List Token) × IsName n × (2 ≤ length ms) × AllZip SaysName ms us
    × (ts ≡ word (codes "union") ∷ word n ∷ us)
SaysCommand (Drop q) ts = SaysOne (codes "drop") q ts
SaysCommand (Open c q) ts = IsName c × IsName q × (ts ≡ word (codes "open") ∷ word c ∷ word q ∷ [])
SaysCommand (Next c k) ts = (ds : Bytes) × IsName c × IsNumeral ds k × (1 ≤ k) × (k ≤ NEXT_COUNT)
    × (ts ≡ word (codes "next") ∷ word c ∷ word ds ∷ [])
SaysCommand (Close c) ts = SaysOne (codes "close") c ts
SaysCommand (Has q vs) ts = SaysRow (codes "has") q vs ts
SaysCommand (Watch q) ts = SaysOne (codes "watch") q ts
SaysCommand (Unwatch q) ts = SaysOne (codes "unwatch") q ts
SaysCommand (Explain q) ts = SaysOne (codes "explain") q ts
SaysCommand (Shape q) ts = SaysOne (codes "shape") q ts
SaysCommand Batch ts = ts ≡ word (codes "batch") ∷ []
SaysCommand (Done None) ts = ts ≡ word (codes "done") ∷ []
SaysCommand (Done (Some k)) ts = (ds : Bytes) × (n : ℕ) × IsNumeral ds n × (k ≡ min n LAST_COUNT)
    × (ts ≡ word (codes "done") ∷ word ds ∷ [])
SaysCommand Abandon ts = ts ≡ word (codes "abandon") ∷ []
SaysCommand Quit ts = ts ≡ word (codes "quit") ∷ []
SaysCommand Stop ts = ts ≡ word (codes "stop") ∷ []

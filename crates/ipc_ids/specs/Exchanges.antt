-- The law of exchanges, over what a list says of one task, the newest fact first; and the form of
-- it that is proved of a list entry by entry.
use Rattle.std.specs.Prelude.{ℕ, ◌≡◌, ◌==◌, ◌++◌, if◌then◌else◌, slice_index, None, List, [], ◌∷◌, ⊤}
use Rattle.ipc_ids.specs.declared.message.ExchangeMode.TheVariants.{Serialize, Parallel}
use Rattle.ipc_ids.specs.declared.entry.Entry.{Entry}
use Rattle.ipc_ids.specs.Codes.{eok}
use Rattle.ipc_ids.specs.Facts.{Terms, Fact, Gets, Begins, EndsExchange, Drops, facts}
use Rattle.ipc_ids.specs.Replies.{Stands}

-- the newest fact is that the fibril gets the reply to the call of its begin: a success, whose fifth
-- argument is this phone
abbrev pub ConnectsTo : ℕ → ℕ → List Fact → Type 0
ConnectsTo f phone (Gets g n None reply ∷ p) =
    (g ≡ f) × (reply.code ≡ eok) × (slice_index reply.args 4 ≡ phone)
ConnectsTo f phone _ = ⊥

-- no fibril begins exchange e in these facts
abbrev pub HasNoBegin : ℕ → List Fact → Type 0
HasNoBegin e p = (f : ℕ) (of : Terms) → Stands (Begins f e of) p → ⊥

-- the law for one task, whose facts stand here, the newest first
pub record EachExchangeIsLawful (p : List Fact) : Type 0 where
  -- from the begin of a serialized exchange until it ends, no exchange of its session is begun
  pub serialized : (later between earlier : List Fact) (f g e d : ℕ) (of other : Terms) →
      p ≡ later ++ (Begins g d other ∷ (between ++ (Begins f e of ∷ earlier))) →
      of.mode ≡ Serialize → other.session ≡ of.session →
      (Stands (EndsExchange e) between → ⊥) → ⊥
  -- a parallel exchange that was not begun before is begun over the phone that its fibril was just
  -- given for it
  pub connected : (later earlier : List Fact) (f e : ℕ) (of : Terms) →
      p ≡ later ++ (Begins f e of ∷ earlier) → of.mode ≡ Parallel → HasNoBegin e earlier →
      ConnectsTo f of.phone earlier
  -- an exchange that is begun again is a parallel one, of the same session, over the same phone and in
  -- the same mode as before; it has ended since then, and was not dropped
  pub begun_again : (later between earlier : List Fact) (f g e : ℕ) (of before : Terms) →
      p ≡ later ++ (Begins f e of ∷ (between ++ (Begins g e before ∷ earlier))) →
      HasNoBegin e between →
      (of ≡ before) × (of.mode ≡ Parallel)
      × Stands (EndsExchange e) between × (Stands (Drops e) between → ⊥)

-- the law of exchanges, for each task by itself
abbrev pub ExchangesAreLawful : List Entry → Type 0
ExchangesAreLawful h = (t : ℕ) → EachExchangeIsLawful (facts t h)

-- where an exchange is in its life: not begun yet, begun, ended, or dropped for good
pub data Stage : Type 0 where
  Unused : Stage
  Begun : (of : Terms) → Stage
  Ended : (of : Terms) → Stage
  Dropped : Stage

abbrev pub ended_stage : Stage → Stage
ended_stage Unused = Unused
ended_stage (Begun of) = Ended of
ended_stage (Ended of) = Ended of
ended_stage Dropped = Dropped

-- the stage of exchange e
abbrev pub stage : ℕ → List Fact → Stage
stage e [] = Unused
stage e (Begins f d of ∷ p) = if d == e then Begun of else stage e p
stage e (EndsExchange d ∷ p) = if d == e then ended_stage (stage e p) else stage e p
stage e (Drops d ∷ p) = if d == e then Dropped else stage e p
stage e (x ∷ p) = stage e p

-- no serialized exchange of the session is begun
abbrev pub IsFree : ℕ → List Fact → Type 0
IsFree session p =
    (e : ℕ) (of : Terms) → stage e p ≡ Begun of → of.mode ≡ Serialize → of.session ≡ session → ⊥

-- a begin and an end come by turns, and only a parallel exchange is begun again, as what it was
abbrev pub MayBegin : List Fact → ℕ → Terms → Stage → Type 0
MayBegin p f of Unused = of.mode ≡ Parallel → ConnectsTo f of.phone p
MayBegin p f of (Begun before) = ⊥
MayBegin p f of (Ended before) = (before ≡ of) × (of.mode ≡ Parallel)
MayBegin p f of Dropped = ⊥

abbrev pub MayEnd : Stage → Type 0
MayEnd (Begun of) = ⊤
MayEnd _ = ⊥

-- only a parallel exchange that has ended is dropped
abbrev pub MayDrop : Stage → Type 0
MayDrop (Ended of) = of.mode ≡ Parallel
MayDrop _ = ⊥

-- after these facts this one is allowed by the stage of its exchange
abbrev pub IsAllowedOfExchange : List Fact → Fact → Type 0
IsAllowedOfExchange p (Begins f e of) = IsFree of.session p × MayBegin p f of (stage e p)
IsAllowedOfExchange p (EndsExchange e) = MayEnd (stage e p)
IsAllowedOfExchange p (Drops e) = MayDrop (stage e p)
IsAllowedOfExchange p _ = ⊤

-- each fact was allowed as it came
abbrev pub ExchangesWereLawful : List Fact → Type 0
ExchangesWereLawful [] = ⊤
ExchangesWereLawful (x ∷ p) = ExchangesWereLawful p × IsAllowedOfExchange p x

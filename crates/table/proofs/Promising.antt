-- A contract that asks nothing of a caller: what the contracts of public calls in the source are tied to. Assumes nothing.
use seplogic.Ra.Ura.{Ura}
use base.Logic.{emp}
use contract.Monad.{fact}
use contract.Lifetimes.{Lfts}
use denote.Triple.Entry.{Res, Args}
use denote.Triple.Clauses.{Ended, AtExit, Clauses}

-- A promise of a call: of its arguments, its answer and what it leaves.
abbrev pub Promise : Ended → Type 1
Promise T = (κs : Lfts T.signature.lifetimes) → Args T.signature κs → Res T.signature κs → AtExit T κs → Type 0

-- The contract that asks nothing and promises P.
abbrev pub promising : {M : Type 1} (𝓤 : Ura M) (T : Ended) → Promise T → Clauses 𝓤 T
promising 𝓤 T P κs a = record { ghost = Unit {0}; requires = λ _. emp 𝓤; ensures = λ _ r e. fact 𝓤 (P κs a r e) }

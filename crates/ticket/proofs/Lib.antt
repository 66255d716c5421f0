-- RefusedSteps, AcceptedSteps: the register's step, refused and accepted, for Ways and the calls. Ways: each way through step.
-- CallAnswers: for the calls; KeptWords: what is left of the words. CallTheorems: demands 1 and 2 about the call itself;
-- ExclusiveCallTheorems: exclusive properties. ApplyTied: the contract in the source is their premise.
pub mod RefusedSteps
mod AcceptedSteps
mod Ways
pub mod CallAnswers
pub mod KeptWords
pub mod CallTheorems
pub mod ExclusiveCallTheorems
pub mod ApplyTied

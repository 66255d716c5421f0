-- GivenWords (words and their facts), Conclusions and Typings (what follows), GrowthSteps (how steps compose): for put and the
-- functions of property. AloneTurns: for put_alone. JoinedTurns: for put_joined. PutStep: for put. KeptFacts: for the functions
-- of property. PropertyGrowth: for put_property. Closed, Equation: the words at rest, for put_property and grow. AskedWord: for
-- grow.
pub mod GivenWords
pub mod Conclusions
pub mod Typings
pub mod GrowthSteps
pub mod AloneTurns
pub mod JoinedTurns
pub mod PutStep
pub mod Closed
pub mod Equation
pub mod KeptFacts
pub mod PropertyGrowth
pub mod AskedWord

-- PreviewLaws: asking and committing beside the step. AskTheorems, CommitTheorems: what is proved of the calls. PreviewCases: the
-- worked example, computed.
pub mod PreviewLaws
pub mod AskTheorems
pub mod CommitTheorems
pub mod PreviewCases

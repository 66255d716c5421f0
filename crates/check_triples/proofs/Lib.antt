-- AnswerSmall: for put_answer.
mod AnswerSmall

-- What a call asks of the state that the memory shows, what refuses it, and what it comes to there.
pub mod Results
pub mod Tests

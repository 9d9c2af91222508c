mod Example

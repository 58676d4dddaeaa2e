mod Spans

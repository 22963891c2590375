mod EndExamples

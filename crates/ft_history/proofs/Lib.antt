mod ZeroSized
